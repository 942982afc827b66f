-- In every schedule without a clash a member that begins alike and its controller are never apart, by what is known of
-- each step of the two. It serves `Proved.never_apart`.
use Rattle.std.proofs.Common.{◌≡◌, ℕ, zero, suc, List, [], ◌∷◌, map, length, inl, inr, Option, Some, None, slice_get, refl, sym, ap, subst, ◌∙◌, arith}
use Rattle.std.specs.Option.{option_and_then, option_map}
use Rattle.std.proofs.lemmas.List.{length-map}
use Rattle.std.proofs.lemmas.List.Elements.{recursion_from_All}
use Rattle.wire_base.specs.Maps.{place_of}
use Rattle.wire_base.specs.Names.{SameName}
use Rattle.account_table.specs.AccountTable.{AccountTable}
use Rattle.account_table.specs.Changes.{DifferInStates}
use Rattle.account_table.specs.Document.{has_name}
use Rattle.account_table.specs.LookUps.{account_in, machine_name, place_in}
use Rattle.account_table.specs.declared.account.Account.{Account}
use Rattle.secret_change.specs.Agreement.{Holds as HoldsSecret}
use Rattle.secret_change.specs.Secrets.{AreSecrets, SecretsState, tried_of}
use Rattle.secret_change.specs.declared.secrets.Next.{Next}
use Rattle.channel_client.specs.declared.caller.Caller.{Caller}
use Rattle.wire_base.proofs.ListLaws.{no_some, some_is}
use Rattle.channel_events.proofs.SecretOrderLaws.{stay_together}
use Rattle.member_server.specs.declared.plan.MemberPlan.{MemberPlan}
use Rattle.member_server.specs.declared.state.Running.{Running}
use Rattle.member_server.specs.Machine.{fresh_member}
use Rattle.member_server.specs.State.{State as MemberState}
use Rattle.member_server.proofs.TryingLaws.{tries_its_secrets}
use Rattle.step_notes.specs.Records.{Book, OfMember, blank}
use Rattle.world_moves.specs.declared.bag.BagUnit.{BagUnit}
use Rattle.world_moves.specs.declared.links.EndId.{EndId}
use Rattle.world_moves.specs.declared.links.EndId.TheVariants.{Controller}
use Rattle.world_moves.specs.declared.moves.Move.{Move}
use Rattle.world_moves.specs.declared.plan.Plan.{Plan}
use Rattle.world_moves.specs.declared.state.State.{State}
use Rattle.world_moves.specs.Acting.{Given}
use Rattle.world_moves.specs.Ends.{EndStates}
use Rattle.world_moves.specs.Forms.{HasForms, IsBlock, IsMemberPlan, IsSchedule}
use Rattle.world_moves.specs.MemberPlans.{but_secret}
use Rattle.world_moves.specs.Moving.{end_of_peer}
use Rattle.world_moves.specs.World.{first_ends}
use Rattle.domain_world.specs.Claims.AcceptedOpenings.{AsksAlone}
use Rattle.domain_world.specs.Claims.Hashes.{hash_after, hash_at}
use Rattle.domain_world.specs.Claims.NeverApart.{BeginsAlike, HasItsAccount, IsAmong, IsNeverApart}
use Rattle.domain_world.specs.Past.{Delivery, controller_number, controller_of_plan, past}
use Rattle.domain_world.proofs.Quiet.QuietRunLaws.{bytes_handed, has_bytes, is_quiet}
use Rattle.domain_world.proofs.Apart.HappeningLaws.{alike_place}
use Rattle.domain_world.proofs.Apart.KeptTextLaws.{Kept, first_keeps, kept_keeps, secrets_in}
use Rattle.domain_world.proofs.Apart.NamedPlanLaws.{NamesStand, plain_same}
use Rattle.domain_world.proofs.Apart.OrderMoveLaws.{Known, OrderMove, known_first, known_keep, order_first, order_moves, suits_known}
use Rattle.domain_world.proofs.Apart.OrderSuitLaws.{SuitSide}
use Rattle.domain_world.proofs.Apart.TogetherBookLaws.{Pairing, hash_is, hash_now}
use Rattle.domain_world.proofs.Apart.TogetherFrameLaws.{HasHelp, asker_for}
use Rattle.domain_world.proofs.Apart.TogetherMoveLaws.{AllFit, IsKnown, TogetherKept, TogetherSide, together_moves}
use Rattle.domain_world.proofs.Apart.TogetherStayLaws.{TiesHold, TogetherSo, holds_alike, seed_alike, seeded}
use Rattle.domain_world.proofs.Apart.TriedLaws.{Try, fresh_try, no_part, one_tries, try_on}
use Rattle.domain_world.proofs.Moves.DrawnRunLaws.{draws_differ}
use Rattle.domain_world.proofs.Frames.FrameLaws.{OfSide, side_keeps}
use Rattle.domain_world.proofs.Moves.MarkPlaceLaws.{got_beside, got_map}
use Rattle.domain_world.proofs.Frames.MemberFrameLaws.{AmongMembers, members_written}
use Rattle.domain_world.proofs.Moves.MemberPlanLaws.{found_but_secret}
use Rattle.domain_world.proofs.Frames.MoveFrameLaws.{HoldsAfterMoves}
use Rattle.domain_world.proofs.Judgements.GrantLaws.{IsPlanned, stand_after}
use Rattle.domain_world.proofs.Judgements.HashLaws.{hashes_follow}
use Rattle.domain_world.proofs.Calls.CallHoldsLaws.{CallsHold, controller_same}
use Rattle.domain_world.proofs.Frames.AloneFrameLaws.{moves_keep_alone}
use Rattle.domain_world.proofs.Frames.MoveKeepLaws.{Both, KeepsMoves, MoveFact, NoSide, Progress, beside, coming, join_moves, started}
use Rattle.domain_world.proofs.Acceptance.Heard.BoundOpeningLaws.{AsksWell, all_fresh_so, asks_written, no_part as nothing_told}
use Rattle.world_moves.specs.Alone.{IsPlainAlone}
use Rattle.world_moves.specs.Plain.{plain_world}
use Rattle.domain_controller.proofs.TrustPlaceLaws.{got_all}

-- a fact that rests on one side rests on another that has it
sided : (A B H : MoveFact) → ((n : ℕ) (q : Progress) (s : State) (given : Given) (b : Book) → B n q s given b → A n q s given b) → KeepsMoves (Unit {0}) A H → KeepsMoves (Unit {0}) B H
sided A B H has keeps = record {
  closes = λ n q end link s given b work side. keeps.closes n q end link s given b work (has n q s given b side);
  opens = λ n at dial route s given b out side. keeps.opens n at dial route s given b out (has n _ s given b side);
  dialled = λ n at end link s given b here side. keeps.dialled n at end link s given b here (has n _ s given b side);
  fails = λ n at end s b side. keeps.fails n at end s b (has n _ s [] b side);
  begins = λ n at client own s b is side. keeps.begins n at client own s b is (has n _ s [] b side);
  comes = λ n end w piece s given b here came bytes side. keeps.comes n end w piece s given b here came bytes (has n _ s given b side);
  reaches = λ n w s given b side. keeps.reaches n w s given b (has n _ s given b side);
  acts = λ n q end what s given b work side. keeps.acts n q end what s given b work (has n _ s given b side);
  shuts = λ n q link s given b work side. keeps.shuts n q link s given b work (has n q s given b side);
  answers = λ n at dial link there s given b is side. keeps.answers n at dial link there s given b is (has n _ s given b side);
  forgets = λ n at end s b side. keeps.forgets n at end s b (has n _ s [] b side);
  settles = λ n at on number s b side. keeps.settles n at on number s b (has n _ s [] b side);
  dials = λ n at dial s b is side. keeps.dials n at dial s b is (has n _ s [] b side);
  renews = λ n at end s b side. keeps.renews n at end s b (has n _ s [] b side);
  changes = λ n at member secret s b formed side. keeps.changes n at member secret s b formed (has n _ s [] b side);
  ticks = λ n at more s b side. keeps.ticks n at more s b (has n _ s [] b side);
  over = λ n at on next s given b side. keeps.over n at on next s given b (has n _ s given b side);
}

-- ---- a member that begins alike

-- the place of its account, and what the call in each unit sets
abbrev pub pairing_of : (plan : Plan) (member : ℕ) → BeginsAlike plan member → ℕ → (ℕ → Option (List ℕ)) → Pairing
pairing_of plan member begins place asks =
    record { who = member; controller = begins.controller; computer = begins.own.computer; place = place; secret = begins.secret; asks = asks }

pub asks_alone : (plan : Plan) (member : ℕ) (begins : BeginsAlike plan member) → AsksAlone plan member begins.own.computer
asks_alone plan member begins other own is differs same =
    begins.only (OfMember other) own.computer (λ who. differs (let same = who in cc)) (ap (option_map (λ (p : MemberPlan). p.computer)) is) same

abbrev pub TryFact : MoveFact
TryFact = Both (OfSide no_part (AmongMembers no_part Try try_on) (members_written no_part Try try_on)) (OfSide nothing_told AsksWell asks_written)

try_keeps : KeepsMoves (Unit {0}) NoSide TryFact
try_keeps =
    join_moves (Unit {0}) (OfSide no_part (AmongMembers no_part Try try_on) (members_written no_part Try try_on)) (OfSide nothing_told AsksWell asks_written)
    (side_keeps no_part (AmongMembers no_part Try try_on) (members_written no_part Try try_on) (Unit {0}))
    (beside (Unit {0}) (OfSide no_part (AmongMembers no_part Try try_on) (members_written no_part Try try_on)) (OfSide nothing_told AsksWell asks_written)
    (side_keeps nothing_told AsksWell asks_written (Unit {0})))

get_mapped : {T U : Type 0} (f : T → U) (items : List T) (k : ℕ) → option_map f (slice_get items k) ≡ slice_get (map f items) k
get_mapped f [] zero = refl
get_mapped f [] (suc k) = refl
get_mapped f (item ∷ items) zero = refl
get_mapped f (item ∷ items) (suc k) = get_mapped f items k

-- ---- the account

-- the place of an account that is found
pub record IsPlacedAt (accounts : List Account) (name : List ℕ) (account : Account) : Type 0 where
  pub place : ℕ
  pub found : place_of (has_name name) accounts ≡ Some place
  pub there : slice_get accounts place ≡ Some account

pub found_at : (accounts : List Account) (account : Account) (found : Option ℕ) → option_and_then (slice_get accounts) found ≡ Some account →
    (place : ℕ) × (found ≡ Some place) × (slice_get accounts place ≡ Some account)
found_at accounts account None is = absurd (no_some account is)
found_at accounts account (Some place) is = (place, refl, is)

pub placed_at : (accounts : List Account) (name : List ℕ) (account : Account) → account_in accounts name ≡ Some account → IsPlacedAt accounts name account
unfolding place_in
placed_at accounts name account is =
    let its = found_at accounts account (place_of (has_name name) accounts) is in record { place = its.0; found = its.1; there = its.2 }

pub its_place : (plan : Plan) (member : ℕ) (begins : BeginsAlike plan member) → IsPlacedAt begins.table.accounts (machine_name begins.own.computer) begins.account
its_place plan member begins = placed_at begins.table.accounts (machine_name begins.own.computer) begins.account begins.found

-- an account's hash is that by the calls that set one
pub hash_of_run : (plan : Plan) (moves : List Move) → IsPlainAlone plan → (member : ℕ) (begins : BeginsAlike plan member) (has : HasItsAccount (past plan moves) member begins) →
    has.account.hash ≡ hash_now begins.secret begins.controller (its_place plan member begins).place (past plan moves).book.judged
hash_of_run plan moves nobody member begins has =
    let first : IsPlacedAt begins.table.accounts (machine_name begins.own.computer) begins.account = its_place plan member begins in
    let last : IsPlacedAt has.state.table.accounts (machine_name begins.own.computer) has.account = placed_at has.state.table.accounts (machine_name begins.own.computer) has.account has.found in
    let planned : IsPlanned plan begins.controller has.state.table has.state.name = (stand_after plan moves nobody).each begins.controller has.state has.at in
    let table : planned.planned ≡ begins.table = some_is planned.planned begins.table (sym planned.is ∙ begins.is_table) in
    let differ : DifferInStates begins.table has.state.table = subst (λ (t : AccountTable). DifferInStates t has.state.table) table planned.states in
    let same : last.place ≡ first.place =
    some_is last.place first.place
    (sym last.found ∙ alike_place (machine_name begins.own.computer) begins.table.accounts has.state.table.accounts differ.accounts ∙ first.found) in
    let hash : Option (List ℕ) → Type 0 = λ found. found ≡ hash_after (hash_at begins.table first.place) begins.controller first.place (past plan moves).book.judged in
    let now : hash_at has.state.table first.place ≡ hash_after (hash_at begins.table first.place) begins.controller first.place (past plan moves).book.judged =
    hashes_follow plan moves nobody.plain begins.controller has.state begins.table begins.is_table has.at first.place in
    let old : hash_at begins.table first.place ≡ Some begins.secret = ap (option_map (λ (a : Account). a.hash)) first.there ∙ ap (λ (h : List ℕ). Some h) begins.hash in
    let new : hash_at has.state.table first.place ≡ Some has.account.hash =
    ap (λ (k : ℕ). hash_at has.state.table k) (sym same) ∙ ap (option_map (λ (a : Account). a.hash)) last.there in
    some_is has.account.hash (hash_now begins.secret begins.controller first.place (past plan moves).book.judged)
    (sym new ∙ now ∙ ap (λ (found : Option (List ℕ)). hash_after found begins.controller first.place (past plan moves).book.judged) old
    ∙ hash_is begins.secret begins.controller first.place (past plan moves).book.judged)

is_among : (hash : List ℕ) (secrets : SecretsState) → HoldsSecret hash secrets → IsAmong hash secrets
is_among hash secrets holds = record {
  among = holds;
  when_alone = λ none. elim holds [
    | inl is ↦ is
    | inr is ↦ absurd (no_some hash (sym (ap (option_map (λ (n : Next). n.secret)) none) ∙ is))
  ];
}

module _ (plan : Plan) (member : ℕ) (begins : BeginsAlike plan member) (place : ℕ) (asks : ℕ → Option (List ℕ)) where
  abbrev p : Pairing
  p = pairing_of plan member begins place asks

  abbrev Ordered : MoveFact
  Ordered = OrderMove plan (asker_for p) (asks_alone plan member begins)

  -- all that is kept beside
  abbrev pub Beneath : MoveFact
  Beneath = Both (Both (Both (Known plan) Ordered) (Kept member)) TryFact

  pub beneath_keep : KeepsMoves (Unit {0}) NoSide Beneath
  beneath_keep =
      join_moves (Unit {0}) (Both (Both (Known plan) Ordered) (Kept member)) TryFact
      (join_moves (Unit {0}) (Both (Known plan) Ordered) (Kept member)
      (join_moves (Unit {0}) (Known plan) Ordered (known_keep plan) (order_moves plan (asker_for p) (asks_alone plan member begins)))
      (beside (Unit {0}) (Both (Known plan) Ordered) (Kept member) (kept_keeps member)))
      (beside (Unit {0}) (Both (Both (Known plan) Ordered) (Kept member)) TryFact try_keeps)

  -- a member's controller is the one of its plan
  plan_asks : (own : Option MemberPlan) (ends : EndStates) → option_map but_secret own ≡ Some (but_secret begins.own) → end_of_peer begins.own.controller ends ≡ Some (Controller begins.controller) →
      controller_of_plan own ends ≡ begins.controller
  plan_asks None ends is reaches = absurd (no_some (but_secret begins.own) is)
  plan_asks (Some own) ends is reaches =
      ap (λ (peer : List ℕ). controller_number (end_of_peer peer ends) (length ends.controllers)) (ap (λ (x : MemberPlan). x.controller) (some_is (but_secret own) (but_secret begins.own) is))
      ∙ ap (λ (end : Option EndId). controller_number end (length ends.controllers)) reaches

  own_alike : (s : State) → NamesStand plan s → option_map but_secret (slice_get s.member_plans member) ≡ Some (but_secret begins.own)
  own_alike s names =
      get_mapped but_secret s.member_plans member ∙ ap (λ (all : List MemberPlan). slice_get all member) names.plans ∙ found_but_secret plan.members member begins.own begins.is_plan

  pub help_of : (n : ℕ) (q : Progress) (s : State) (given : Given) (b : Book) → Beneath n q s given b → HasHelp p n q.rest s given b
  help_of n q s given b known =
      let names : NamesStand plan s = known.0.0.0.1.0.1 in
      let first_there = got_beside plan.members s.ends.members member begins.own (sym (sym names.ends.members ∙ length-map plan.members fresh_member)) begins.is_plan in
      record {
        calls = known.0.0.0.1.0.0.0.1;
        order = known.0.0.1;
        tries = λ at m there. one_tries s.ends.members at m there known.1.0;
        texts = known.0.1.1;
        there = first_there;
        asks = controller_same (slice_get s.member_plans member) (first_ends plan) s.ends (record {
          controllers = sym names.ends.controllers ∙ (plain_same plan).controllers;
          members = sym names.ends.members ∙ (plain_same plan).members;
          clients = sym names.ends.clients;
          stations = sym names.ends.stations;
        })
            ∙ plan_asks (slice_get s.member_plans member) (first_ends plan) (own_alike s names) begins.reaches;
        named = λ few differ running there.
            let holds : CallsHold n s.member_plans s.ends s.chances.drawn s.links b.sent b.messages = known.0.0.0.1.0.0.0.1 few differ in
            let own = holds.members member (record { running = Some running }) there in
            let name = names.named member (record { running = Some running }) begins.own there begins.is_plan in
            subst (λ (one : List ℕ). SameName one begins.own.computer) (sym (ap (λ (x : Caller). x.computer) own.asks.caller ∙ name)) refl;
      }

  pub suits_beneath : (n : ℕ) (w : Delivery) (s : State) (given : Given) (b : Book) → Beneath n (coming w) s given b → SuitSide (asker_for p) n s given b
  suits_beneath n w s given b known = suits_known plan (asker_for p) (asks_alone plan member begins) n w s given b known.0.0.0

  -- ---- a run

  first_together : TogetherSo p [] (plain_world plan).state.member_plans (plain_world plan).state.ends.members blank
  first_together st there =
      let made = got_map fresh_member plan.members member st there in
      let own : begins.own ≡ made.0 = some_is begins.own made.0 (sym begins.is_plan ∙ made.1) in
      subst (λ (x : MemberState). TiesHold p [] (plain_world plan).state.member_plans blank x.running) (ap fresh_member own ∙ made.2) (record {
        coherent = (tries_its_secrets.fresh begins.own).coherent;
        out = None;
        waits = refl;
        together = (stay_together ℕ).first _ member begins.controller begins.own.computer _ (inl (ap (λ (x : SecretsState). x.current) (sym begins.one))) refl refl refl;
      })

  held_among : (r : Option Running) (running : Running) (s : State) (b : Book) → r ≡ Some running → TiesHold p [] s.member_plans b r →
      HoldsSecret (hash_now begins.secret begins.controller place b.judged) running.logons.plan.secrets
  held_among None running s b is ties = absurd (no_some running is)
  held_among (Some first) running s b is ties =
      subst (λ (one : Running). HoldsSecret (hash_now begins.secret begins.controller place b.judged) one.logons.plan.secrets) (some_is first running is) ties.together.among

  kept_holds : {n : ℕ} (own : MemberPlan) (r : Option Running) (s : State) (b : Book) → slice_get s.member_plans member ≡ Some own → slice_get s.ends.members member ≡ Some (record { running = r }) →
      HasHelp p n [] s [] b → TiesHold p [] s.member_plans b r → HoldsSecret (hash_now begins.secret begins.controller place b.judged) own.secrets
  kept_holds own None s b is there help stopped =
      holds_alike stopped.seed.secrets own.secrets (seed_alike member s.member_plans stopped.seed own is stopped.texts) _ stopped.together.among
  kept_holds own (Some running) s b is there help ties =
      holds_alike running.logons.plan.secrets own.secrets
      (seed_alike member s.member_plans running.logons.plan own is (seeded member [] s.member_plans s.ends.members running there help.texts)) _ ties.together.among

  -- at first
  pub first_beneath : (moves : List Move) → IsSchedule plan moves → AreSecrets begins.own.secrets → (on : Option Delivery) → Beneath 0 (started 0 on) (plain_world plan).state [] blank
  first_beneath moves schedule are on = (
    (
      ((known_first plan (asker_for p) (asks_alone plan member begins) moves schedule on), order_first plan (asker_for p) (asks_alone plan member begins)),
      ((begins.own, begins.is_plan), first_keeps plan member begins.own begins.is_plan are),
    ),
    (fresh_try plan.members, all_fresh_so plan.members),
  )

  -- by what is kept beside, of which all of that is a part
  module _ (More : MoveFact) (more_keep : KeepsMoves (Unit {0}) NoSide More) (has_beneath : (n : ℕ) (q : Progress) (s : State) (given : Given) (b : Book) → More n q s given b → Beneath n q s given b)
      (Knows : List BagUnit → Book → Type 0) (known : IsKnown Knows) (fits : AllFit p Knows More) where
    abbrev Together : MoveFact
    Together = TogetherKept p Knows More

    side_of : (n : ℕ) (q : Progress) (s : State) (given : Given) (b : Book) → More n q s given b → TogetherSide p Knows More n q s given b
    side_of n q s given b more =
        let beneath : Beneath n q s given b = has_beneath n q s given b more in (beneath.0.0.0.0, is_quiet s beneath.0.0.0.1.0.0.0.0, help_of n q s given b beneath, more)

    all_keep : KeepsMoves (Unit {0}) NoSide (Both More Together)
    all_keep = join_moves (Unit {0}) More Together more_keep (sided (TogetherSide p Knows More) More Together side_of (together_moves p Knows More known fits))

    run_together : (moves : List Move) → IsPlainAlone plan → IsSchedule plan moves → ((on : Option Delivery) → More 0 (started 0 on) (plain_world plan).state [] blank) →
        HoldsAfterMoves (Unit {0}) (Both More Together) plan moves
    run_together moves nobody schedule first =
        moves_keep_alone (Unit {0}) (Both More Together) all_keep plan moves nobody (λ unit. has_bytes plan moves nobody schedule) (λ on. (first on, λ few differ knows. first_together))

    -- the hash is among the secrets that it holds, and among those that it kept
    pub never_apart_so : (moves : List Move) → IsPlainAlone plan → IsSchedule plan moves → ((on : Option Delivery) → More 0 (started 0 on) (plain_world plan).state [] blank) →
        (has : HasItsAccount (past plan moves) member begins) → has.account.hash ≡ hash_now begins.secret begins.controller place (past plan moves).book.judged →
        Knows (past plan moves).world.state.bag (past plan moves).book → IsNeverApart (past plan moves) member begins
    never_apart_so moves nobody schedule first has hash knows =
        let after : HoldsAfterMoves (Unit {0}) (Both More Together) plan moves = run_together moves nobody schedule first in
        let s : State = (past plan moves).world.state in
        let b : Book = (past plan moves).book in
        let together : TogetherSo p [] s.member_plans s.ends.members b =
        after.holds.1 (omega (arith, after.few tt, schedule.few)) (draws_differ plan moves) knows in
        let last : Progress = started (past plan moves).world.moves None in
        let help : HasHelp p after.steps [] s [] b = help_of after.steps last s [] b (has_beneath after.steps last s [] b after.holds.0) in
        let kept_so : (own : MemberPlan) (r : Option Running) → slice_get s.member_plans member ≡ Some own → slice_get s.ends.members member ≡ Some (record { running = r }) →
        TiesHold p [] s.member_plans b r → HoldsSecret (hash_now begins.secret begins.controller place b.judged) own.secrets =
        λ own r is there ties. kept_holds own r s b is there help ties in
        record {
          state = has.state;
          at = has.at;
          account = has.account;
          found = has.found;
          held = λ m running there runs.
              is_among has.account.hash running.logons.plan.secrets
              (subst (λ (one : List ℕ). HoldsSecret one running.logons.plan.secrets) (sym hash) (held_among m.running running s b runs (together m there)));
          kept = λ secrets is.
              let own = secrets_in (slice_get s.member_plans member) secrets is in
              is_among has.account.hash secrets
              (subst (λ (one : SecretsState). HoldsSecret has.account.hash one) own.2
              (subst (λ (one : List ℕ). HoldsSecret one own.0.secrets) (sym hash) (kept_so own.0 help.there.0.running own.1 help.there.1 (together help.there.0 help.there.1))));
        }

-- a member's secret has 16 bytes
pub its_secrets : (plan : Plan) (member : ℕ) (begins : BeginsAlike plan member) → HasForms plan → AreSecrets begins.own.secrets
its_secrets plan member begins forms =
    let own : IsMemberPlan begins.own = got_all IsMemberPlan plan.members member begins.own (recursion_from_All IsMemberPlan plan.members forms.members) begins.is_plan in
    let tried : IsBlock 16 begins.secret = subst (λ (s : SecretsState). IsBlock 16 (tried_of s)) begins.one own.secret in
    subst AreSecrets (sym begins.one) ((tried.0, bytes_handed begins.secret tried.1), tt)
