-- A stranger hands in a copy of the call by which FILE1 sets its secret: the premise isn't met, and with another last
-- byte FILE1 and its controller are apart. It serves `a_stranger_parts_them`.
use Rattle.std.proofs.Common.{◌≡◌, ◌≤◌, ◌<◌, ℕ, ◌&&◌, Bool, true, false, List, [], ◌∷◌, get_or, length, Option, Some, refl, sym, ap, subst, ◌∙◌, arith, slice_get}
use Rattle.std.specs.Prelude.{All, nat_le}
use Rattle.std.specs.Option.{option_map}
use Rattle.std.proofs.lemmas.Bool.{and_parts, leb-true}
use Rattle.std.proofs.lemmas.List.Elements.{All-append, All-cons, All-from_recursion, All-nil}
use Rattle.wire_base.proofs.ListLaws.{some_is}
use Rattle.account_table.specs.declared.account.Account.{Account}
use Rattle.world_moves.specs.declared.moves.Move.{Move}
use Rattle.world_moves.specs.declared.moves.Move.TheVariants as move
use Rattle.world_moves.specs.Forms.{IsByte, IsSchedule}
use Rattle.domain_world.specs.Claims.NeverApart.{IsAmong, IsNeverApart}
use Rattle.claim_examples.specs.ChangeRuns.{changing_plan, hash_in, opened_moves}
use Rattle.claim_examples.specs.NeverApartExamples.{both_secrets, new_secret, old_secret}
use Rattle.claim_examples.specs.StrangerRuns.{StrangerPartsThem, StrangerSets, altered_call, altered_hash, bind_bytes, copied_call, stranger_moves, stranger_run}
use Rattle.claim_examples.proofs.NeverApartExampleLaws.{not_among}
use Rattle.claim_examples.proofs.Runs.ChangeRunLaws.{CanBeMade, changing_begins, clear_by, not_round, opened_can, schedule_by, shown}
use Rattle.claim_examples.proofs.Runs.ChangeShownLaws.{Copied, Seen, altered_is_seen, calm_with, copied_in, copy_is_seen, seen_in}

-- ---- the moves are a schedule

abbrev are_bytes : List ℕ → Bool
are_bytes [] = true
are_bytes (byte ∷ bytes) = nat_le byte 255 && are_bytes bytes

bytes_by : (bytes : List ℕ) → are_bytes bytes ≡ true → All IsByte bytes
bytes_by [] are = All-nil IsByte
bytes_by (byte ∷ bytes) are =
    let both = and_parts (nat_le byte 255) (are_bytes bytes) are in
    let small : byte < 256 = omega (arith, leb-true byte 255 both.0) in
    All-cons IsByte byte bytes small (bytes_by bytes both.1)

-- the moves behind the opening, one of which hands the call in
call_can : (call : List ℕ) → length call ≤ 65536 → are_bytes call ≡ true → All CanBeMade (stranger_moves call)
call_can call few are =
    All-append CanBeMade opened_moves
    (move.Connect ∷ move.Onward ∷ move.Onward ∷ move.Lose ∷ move.Stranger 0 ∷ move.Hand 1 false bind_bytes ∷ move.Hand 1 false call ∷ []) opened_can
    (All-from_recursion CanBeMade (move.Connect ∷ move.Onward ∷ move.Onward ∷ move.Lose ∷ move.Stranger 0 ∷ move.Hand 1 false bind_bytes ∷ move.Hand 1 false call ∷ [])
    ((tt, tt), ((tt, tt), ((tt, tt), ((tt, tt), ((tt, omega arith), ((omega arith, (omega arith, bytes_by bind_bytes refl)), ((few, (omega arith, bytes_by call are)), tt))))))))

-- ---- what it sets

sets : (call hash : List ℕ) → IsSchedule changing_plan (stranger_moves call) → seen_in (stranger_run call).world (stranger_run call).book ≡ calm_with true 1 0 hash both_secrets → StrangerSets call hash
sets call hash schedule is = record {
  schedule = schedule;
  clear = clear_by (stranger_moves call) true 1 0 hash both_secrets (omega arith) not_round is;
  foreign = ap Seen.foreign is;
  has = record { hash = ap Seen.hash is; held = ap Seen.held is; kept = ap Seen.kept is };
}

-- ---- the two are apart

altered_is_old : altered_hash ≡ old_secret → ⊥
altered_is_old same = let never : 0x61 ≡ 0x41 = ap (λ (hash : List ℕ). get_or hash 0 0) same in omega (arith, never)

altered_is_new : altered_hash ≡ new_secret → ⊥
altered_is_new same = let never : 0x38 ≡ 0x61 = ap (λ (hash : List ℕ). get_or hash 8 0) same in omega (arith, never)

parted : StrangerSets altered_call altered_hash → IsNeverApart (stranger_run altered_call) 0 changing_begins → ⊥
parted stands its =
    let state : hash_in (slice_get (stranger_run altered_call).world.state.ends.controllers 0) ≡ hash_in (Some its.state) = ap hash_in its.at in
    let found : hash_in (Some its.state) ≡ Some its.account.hash = ap (λ (one : Option Account). option_map (λ (account : Account). account.hash) one) its.found in
    let hash : altered_hash ≡ its.account.hash = some_is altered_hash its.account.hash (sym stands.has.hash ∙ state ∙ found) in
    not_among altered_hash old_secret both_secrets.next altered_is_old (λ is. altered_is_new (sym (some_is new_secret altered_hash is)))
    (subst (λ (h : List ℕ). IsAmong h both_secrets) (sym hash) (its.kept both_secrets stands.has.kept))

copied_shown : copied_in (stranger_run copied_call).world (stranger_run copied_call).book
    ≡ record { seen = calm_with true 1 0 new_secret both_secrets; bind = Some bind_bytes; call = Some copied_call }
copied_shown = shown copied_in (stranger_moves copied_call) _ copy_is_seen

altered_sets : StrangerSets altered_call altered_hash
altered_sets =
    sets altered_call altered_hash (schedule_by (stranger_moves altered_call) (omega arith) (call_can altered_call (omega arith) refl))
    (shown seen_in (stranger_moves altered_call) _ altered_is_seen)

pub stranger_parts_them : StrangerPartsThem
stranger_parts_them = record {
  begins = changing_begins;
  bind = ap Copied.bind copied_shown;
  call = ap Copied.call copied_shown;
  copied = sets copied_call new_secret (schedule_by (stranger_moves copied_call) (omega arith) (call_can copied_call (omega arith) refl)) (ap Copied.seen copied_shown);
  altered = altered_sets;
  apart = parted altered_sets;
}
