-- The account of a member stays at its controller; and where a run came to happenings each of which might happen, a
-- member and its controller are not apart. It serves `happenings_leave_no_two_apart`.
use Rattle.std.proofs.Common.{◌≡◌, ◌<◌, ℕ, zero, suc, ◌+◌, ◌-◌, Bool, true, false, List, [], ◌∷◌, inl, inr, length, map, nat_lt, Option, Some, None, slice_get, if◌then◌else◌, refl, sym, ap, ap₂, subst, ◌∙◌, arith}
use Rattle.std.proofs.lemmas.Bool.Decides.{nat_tests}
use Rattle.std.specs.Option.{option_and_then, option_map}
use Rattle.wire_base.specs.Maps.{place_of}
use Rattle.wire_base.specs.Names.{same_name}
use Rattle.account_table.specs.AccountTable.{AccountTable}
use Rattle.account_table.specs.Changes.{DifferInStates, without_state}
use Rattle.account_table.specs.Document.{has_name}
use Rattle.account_table.specs.LookUps.{account_in, machine_name, place_in}
use Rattle.account_table.specs.declared.account.Account.{Account}
use Rattle.secret_change.specs.Agreement.{Agree, Holds, Pair, after_all, first_pair}
use Rattle.secret_change.specs.Secrets.{SecretsState, next_of, reread, untry}
use Rattle.secret_change.specs.declared.secrets.Next.{Next}
use Rattle.secret_change.proofs.AgreementLaws.{all_agree}
use Rattle.world_moves.specs.declared.links.EndId.{EndId}
use Rattle.world_moves.specs.declared.links.EndId.TheVariants.{Client, Controller, Member, Station}
use Rattle.world_moves.specs.declared.moves.Move.{Move}
use Rattle.world_moves.specs.declared.plan.Plan.{Plan}
use Rattle.world_moves.specs.Ends.{EndStates}
use Rattle.world_moves.specs.Moving.{end_of_peer}
use Rattle.world_moves.specs.World.{World, first_ends, first_world, happens, run}
use Rattle.logon_runs.specs.Scenes.Staying.{HasSameEnds}
use Rattle.logon_runs.proofs.Scenes.StayingLaws.{ends_stay}
use Rattle.domain_world.specs.Claims.NeverApart.{BeginsAlike, ComesTo, HasItsAccount, IsAmong, IsNeverApart, NeverApartByHappenings}
use Rattle.domain_world.specs.Past.{Past, past}
use Rattle.wire_base.proofs.ListLaws.{no_some, some_is}
use Rattle.domain_world.proofs.Judgements.GrantLaws.{IsPlanned, stand_after}
use Rattle.world_moves.specs.Alone.{IsPlainAlone}

-- ---- accounts that differ in what moves alone

pub alike_place : (name : List ℕ) (old new : List Account) → map without_state new ≡ map without_state old → place_of (has_name name) new ≡ place_of (has_name name) old
alike_place name [] [] same = refl
alike_place name [] (b ∷ new) same = absurd (let never = same in cc)
alike_place name (a ∷ old) [] same = absurd (let never = same in cc)
alike_place name (a ∷ old) (b ∷ new) same =
    let first : without_state b ≡ without_state a = (let is = same in cc) in
    let rest : map without_state new ≡ map without_state old = (let is = same in cc) in
    ap₂ (λ (hit : Bool) (later : Option ℕ). if hit then Some 0 else option_map suc later) (ap (λ (one : Account). same_name name one.name) first) (alike_place name old new rest)

alike_get : (old new : List Account) (place : ℕ) (account : Account) → map without_state new ≡ map without_state old → slice_get old place ≡ Some account →
    (later : Account) × (slice_get new place ≡ Some later)
alike_get [] new place account same there = absurd (let never = there in cc)
alike_get (a ∷ old) [] place account same there = absurd (let never = same in cc)
alike_get (a ∷ old) (b ∷ new) zero account same there = (b, refl)
alike_get (a ∷ old) (b ∷ new) (suc place) account same there = alike_get old new place account (let is = same in cc) there

found_alike : (found : Option ℕ) (old new : List Account) (account : Account) → map without_state new ≡ map without_state old → option_and_then (slice_get old) found ≡ Some account →
    (later : Account) × (option_and_then (slice_get new) found ≡ Some later)
found_alike None old new account same there = absurd (no_some account there)
found_alike (Some place) old new account same there = alike_get old new place account same there

account_alike : (name : List ℕ) (old new : List Account) (account : Account) → map without_state new ≡ map without_state old → account_in old name ≡ Some account →
    (later : Account) × (account_in new name ≡ Some later)
unfolding place_in
account_alike name old new account same there =
    let its = found_alike (place_of (has_name name) old) old new account same there in
    (its.0, ap (option_and_then (slice_get new)) (alike_place name old new same) ∙ its.1)

-- ---- the controller stays

pub run_same : (moves : List Move) (w : World) → HasSameEnds w.state (run moves w).state
run_same [] w = ends_stay.none w.state
run_same (what ∷ moves) w =
    ends_stay.both w.state (happens w what).state (run moves (happens w what)).state (ends_stay.acts w.state what) (run_same moves (happens w what))

-- an end's number, by the test of where it stands
other_end : (first second third : Bool) (member client station : ℕ) (k : ℕ) →
    (if first then Some (Member member) else if second then Some (Client client) else if third then Some (Station station) else None) ≡ Some (Controller k) → ⊥
other_end true second third member client station k is = let never = is in cc
other_end false true third member client station k is = let never = is in cc
other_end false false true member client station k is = let never = is in cc
other_end false false false member client station k is = let never = is in cc

test_below : (hit : Bool) (number count : ℕ) (others : Option EndId) (k : ℕ) → nat_lt number count ≡ hit → (others ≡ Some (Controller k) → ⊥) →
    (if hit then Some (Controller number) else others) ≡ Some (Controller k) → k < count
test_below true number count others k test none is =
    let same : number ≡ k = (let reached = is in cc) in subst (λ (n : ℕ). n < count) same (grind (arith, nat_tests))
test_below false number count others k test none is = absurd (none is)

peer_below : (peer : List ℕ) (ends : EndStates) (k : ℕ) → end_of_peer peer ends ≡ Some (Controller k) → k < length ends.controllers
peer_below [] ends k is = absurd (let never = is in cc)
peer_below (number ∷ []) ends k is =
    let c : ℕ = length ends.controllers in
    let m : ℕ = length ends.members in
    let l : ℕ = length ends.clients in
    test_below (nat_lt number c) number c
    (if nat_lt number (c + m) then Some (Member (number - c)) else if nat_lt number (c + m + l) then Some (Client (number - (c + m)))
    else if nat_lt number (c + m + l + length ends.stations) then Some (Station (number - (c + m + l))) else None) k refl
    (λ reached. other_end (nat_lt number (c + m)) (nat_lt number (c + m + l)) (nat_lt number (c + m + l + length ends.stations)) (number - c) (number - (c + m)) (number - (c + m + l)) k reached) is
peer_below (number ∷ other ∷ more) ends k is = absurd (let never = is in cc)

get_there : {T : Type 0} (items : List T) (k : ℕ) → k < length items → (item : T) × (slice_get items k ≡ Some item)
get_there [] k below = absurd (omega (arith, below))
get_there (first ∷ items) zero below = (first, refl)
get_there (first ∷ items) (suc k) below = get_there items k (omega (arith, below))

pub account_there : (plan : Plan) (moves : List Move) → IsPlainAlone plan → (member : ℕ) (begins : BeginsAlike plan member) → HasItsAccount (past plan moves) member begins
account_there plan moves nobody member begins =
    let p : Past = past plan moves in
    let k : ℕ = begins.controller in
    let below : k < length (first_ends plan).controllers = peer_below begins.own.controller (first_ends plan) k begins.reaches in
    let count : length p.world.state.ends.controllers ≡ length (first_ends plan).controllers = (run_same moves (first_world plan)).ends.controllers in
    let there = get_there p.world.state.ends.controllers k (subst (λ (n : ℕ). k < n) (sym count) below) in
    let planned : IsPlanned plan k there.0.table there.0.name = (stand_after plan moves nobody).each k there.0 there.1 in
    let table : planned.planned ≡ begins.table = some_is planned.planned begins.table (sym planned.is ∙ begins.is_table) in
    let differ : DifferInStates begins.table there.0.table = subst (λ (t : AccountTable). DifferInStates t there.0.table) table planned.states in
    let found = account_alike (machine_name begins.own.computer) begins.table.accounts there.0.table.accounts begins.account differ.accounts begins.found in
    record { state = there.0; at = there.1; account = found.0; found = found.1 }

-- ---- from what happened

-- secrets that are read again have the same secrets
next_alike : (next : Option Next) (current : List ℕ) → next_of (reread (record { current = current; next = next })) ≡ next_of (record { current = current; next = next })
next_alike None current = refl
next_alike (Some n) current = refl

holds_alike : (secret : List ℕ) (kept secrets : SecretsState) → reread kept ≡ secrets → Holds secret kept → Holds secret secrets
holds_alike secret kept secrets same (inl is) = inl (is ∙ ap (λ (s : SecretsState). s.current) same)
holds_alike secret kept secrets same (inr is) = inr (sym (ap next_of same) ∙ next_alike kept.next kept.current ∙ is)

-- none is next where none was
none_untried : (next : Option Next) → untry next ≡ None → next ≡ None
none_untried None is = refl
none_untried (Some n) is = absurd (let never = is in cc)

agrees_so : (past : Past) (member : ℕ) (begins : BeginsAlike past.plan member) (has : HasItsAccount past member begins) (comes : ComesTo past member begins has.account) →
    Agree (after_all (first_pair begins.secret) comes.happenings) → IsNeverApart past member begins
agrees_so past member begins has comes agree =
    let p : Pair = after_all (first_pair begins.secret) comes.happenings in
    record {
      state = has.state;
      at = has.at;
      account = has.account;
      found = has.found;
      held = λ m running there runs.
          let same : p.held ≡ running.logons.plan.secrets = comes.held m running there runs in
          subst (λ (s : SecretsState). IsAmong has.account.hash s) same
          (subst (λ (hash : List ℕ). IsAmong hash p.held) comes.hash (record { among = agree.held; when_alone = agree.held_alone }));
      kept = λ secrets is.
          let same : reread p.kept ≡ secrets = comes.kept secrets is in
          subst (λ (hash : List ℕ). IsAmong hash secrets) comes.hash (record {
            among = holds_alike p.controllers p.kept secrets same agree.kept;
            when_alone = λ none.
                agree.kept_alone (none_untried p.kept.next (ap (λ (s : SecretsState). s.next) same ∙ none)) ∙ ap (λ (s : SecretsState). s.current) same;
          });
    }

pub never_apart_by : NeverApartByHappenings
never_apart_by = record {
  there = account_there;
  follows = λ past member begins has comes. agrees_so past member begins has comes (all_agree begins.secret comes.happenings comes.may);
}
