-- Each channel that a controller keeps, or on which a call is checked, has the type that its opening named, through
-- each call at a controller. It serves `Proved.kinds`.
use Rattle.std.proofs.Common.{◌≡◌, ◌≢◌, ℕ, ◌==◌, ◌&&◌, Bool, true, false, List, [], ◌∷◌, ◌++◌, Option, Some, None, refl, sym, ap, subst, ◌∙◌, inl, inr}
use Rattle.std.specs.List.{AllByRecursion}
use Rattle.std.proofs.lemmas.Bool.{cases_Bool, eq-eqb, ne_eqb}
use Rattle.wire_base.specs.Lists.{OneOf}
use Rattle.wire_base.specs.Maps.{lookup, put}
use Rattle.wire_base.specs.Names.{same_name}
use Rattle.wire_base.specs.declared.authenticator.Authenticator.{Authenticator}
use Rattle.wire_base.proofs.AllLaws.{all_join}
use Rattle.wire_base.proofs.ListLaws.{all_weaker, no_some, not_both, some_is}
use Rattle.wire_base.proofs.MapLaws.{lookup-put_same, put_others}
use Rattle.wire_base.proofs.NameLaws.{IsSameness-same_name, same_name-Decides}
use Rattle.authenticators.specs.SecureChannels.{SecureChannelState, channel_by, channel_of}
use Rattle.logon_stubs.specs.declared.calls.AuthCall.{AuthCall}
use Rattle.controller_calls.specs.declared.calls.JudgedCall.{JudgedCall}
use Rattle.controller_calls.specs.declared.line.Line.{Line}
use Rattle.controller_calls.specs.declared.state.Computers.{Computers}
use Rattle.controller_calls.specs.declared.state.Work.{Work}
use Rattle.controller_calls.proofs.DoneLaws.{does_what_passes}
use Rattle.controller_calls.proofs.OutcomeLaws.{JudgedComes, challenge_comes, judged_comes}
use Rattle.domain_controller.specs.Forwarding.{TrustDesk, base_desk}
use Rattle.domain_controller.specs.Machine.{Desk, account_for, answer_authenticate, answer_challenge, answer_judged, channel_for, desk, take_pair}
use Rattle.step_notes.specs.ControllerNotes.{Answered, Where, accepting, checked_on, has_passed, identity_by, judged_answer, judging_of, opened_by, opening, plain, silent}
use Rattle.step_notes.specs.Records.{ChannelAccepted, Judging}
use Rattle.step_notes.specs.TrustNotes.{trust_judged_answer}
use Rattle.step_notes.proofs.Controllers.ComputerLaws.{judged_finds, lookup_named}
use Rattle.step_notes.proofs.Controllers.NotedLaws.{NotedFact, StaysThrough}
use Rattle.step_notes.proofs.Controllers.OpenedLaws.{opening_noted}
use Rattle.step_notes.proofs.Controllers.TrustedStepLaws.{IsTrusted, StaysWithTrusts}
use Rattle.domain_world.specs.Claims.ChannelKinds.{IsAsOpened, IsCheckedAsOpened, IsLastOpened}
use Rattle.domain_world.specs.Claims.Openings.{is_opened_for, last_accepted, newer_if}
use Rattle.domain_world.specs.Past.{accepted_of, first_of, onto}
use Rattle.domain_world.proofs.Judgements.JudgedLaws.{HoldsIf, by_holds, judging_holds, opening_holds, trusted_judging}
use Rattle.domain_world.proofs.Judgements.Openings.OpeningLaws.{judging_none, trust_none, with_accepted}
use Rattle.domain_world.proofs.Judgements.Openings.OpeningRunLaws.{accepted_more}
use Rattle.domain_world.proofs.Judgements.SeedStepLaws.{numbers_left}

-- ---- what is known

-- each channel that the controller keeps is of the opening that it accepted last for the computer
abbrev pub AreAsOpened : (accepted : List ChannelAccepted) (controller : ℕ) (computers : Computers) → Type 0
AreAsOpened accepted controller computers =
    (name : List ℕ) (has : SecureChannelState) → lookup same_name name computers.channels ≡ Some has → IsLastOpened controller name has accepted

-- the opening that was accepted last is one of those that were
newer_found : (hit : Bool) (P : ChannelAccepted → Type 0) (first one : ChannelAccepted) (older : List ChannelAccepted) (last : Option ChannelAccepted) →
    (last ≡ Some one → OneOf P older) → newer_if hit first last ≡ Some one → P one → OneOf P (first ∷ older)
newer_found true P first one older last later is holds = inl (subst P (sym (some_is first one is)) holds)
newer_found false P first one older last later is holds = inr (later is)

pub last_found : (P : ChannelAccepted → Type 0) (controller : ℕ) (name : List ℕ) (accepted : List ChannelAccepted) (one : ChannelAccepted) → last_accepted controller name accepted ≡ Some one → P one →
    OneOf P accepted
last_found P controller name [] one is holds = absurd (no_some one is)
last_found P controller name (first ∷ older) one is holds =
    newer_found (is_opened_for controller name first) P first one older (last_accepted controller name older) (λ last. last_found P controller name older one last holds) is holds

-- the channels that the controller keeps, and those on which the answered calls are checked, are as they were opened;
-- the last openings of another controller stay the last ones
pub record KindsGo (accepted now : List ChannelAccepted) (controller : ℕ) (answers : List Answered) (computers : Computers) : Type 0 where
  pub kept : AreAsOpened now controller computers
  pub each : AllByRecursion (λ (one : Answered). HoldsIf (IsCheckedAsOpened now) one.judging) answers
  pub others : (at : ℕ) (name : List ℕ) → at ≢ controller → last_accepted at name now ≡ last_accepted at name accepted

-- ---- one answer more

-- the opening, if there is one, is at that controller
abbrev IsHere : (controller : ℕ) (found : Option ChannelAccepted) → Type 0
IsHere controller None = Unit {0}
IsHere controller (Some one) = one.channel.controller ≡ controller

others_more : (found : Option ChannelAccepted) (reply : Option ℕ) (accepted : List ChannelAccepted) (controller at : ℕ) (name : List ℕ) → IsHere controller found → at ≢ controller →
    last_accepted at name (with_accepted found reply accepted) ≡ last_accepted at name accepted
others_more None reply accepted controller at name here differs = refl
others_more (Some one) reply accepted controller at name here differs =
    ap (λ (b : Bool). newer_if b (record one { reply = reply }) (last_accepted at name accepted))
    (ap (λ (k : ℕ). (k == at) && same_name name one.channel.computer) here
    ∙ ap (λ (b : Bool). b && same_name name one.channel.computer) (ne_eqb controller at (λ same. differs (sym same))))

checked_more : (found : Option ChannelAccepted) (reply : Option ℕ) (accepted : List ChannelAccepted) (j : Option Judging) → HoldsIf (IsCheckedAsOpened accepted) j →
    HoldsIf (IsCheckedAsOpened (with_accepted found reply accepted)) j
checked_more None reply accepted j checked = checked
checked_more (Some one) reply accepted None checked = tt
checked_more (Some one) reply accepted (Some j) checked = λ computer has named there. inr (checked computer has named there)

-- ---- an opening

module _ (accepted : List ChannelAccepted) (w : Where) (line : Line) (c : AuthCall) (reply : Option ℕ) (d : Desk) (kept : AreAsOpened accepted w.controller d.work.computers) where
  -- what is kept, where a channel was opened with the type that the call names
  module _ (channel : SecureChannelState) (kind_is : channel.kind ≡ Some c.channel) where
    abbrev new : ChannelAccepted
    new = record (accepting w line.call c.channel (channel_of w.controller c.computer channel)) { reply = reply }

    abbrev entries : List (List ℕ × SecureChannelState)
    entries = put same_name c.computer channel d.work.computers.channels

    opened_test : (name : List ℕ) (same : Bool) → same_name name c.computer ≡ same → is_opened_for w.controller name new ≡ same
    opened_test name same is = ap (λ (b : Bool). b && same_name name c.computer) (eq-eqb w.controller w.controller refl) ∙ is

    new_kept : (name : List ℕ) → same_name c.computer name ≡ true → IsLastOpened w.controller name channel (new ∷ accepted)
    new_kept name same =
        let back : same_name name c.computer ≡ true = IsSameness-same_name.symmetric c.computer name same in
        record {
          one = new;
          last = ap (λ (b : Bool). newer_if b new (last_accepted w.controller name accepted)) (opened_test name true back);
          is = record {
            same = record { controller = refl; computer = (same_name-Decides c.computer name).0 same; secret = refl; client = refl; server = refl; flags = refl };
            kind_is = kind_is;
          };
        }

    other_test : (name : List ℕ) → same_name c.computer name ≡ false → same_name name c.computer ≡ false
    other_test name differs =
        elim (cases_Bool (same_name name c.computer)) [
          | inl same ↦ absurd (not_both (same_name c.computer name) (IsSameness-same_name.symmetric name c.computer same) differs)
          | inr not ↦ not
        ]

    put_kept : (name : List ℕ) (has : SecureChannelState) → lookup same_name name entries ≡ Some has → IsLastOpened w.controller name has (new ∷ accepted)
    put_kept name has at =
        elim (cases_Bool (same_name c.computer name)) [
          | inl same ↦
              subst (λ (x : SecureChannelState). IsLastOpened w.controller name x (new ∷ accepted))
              (some_is channel has
              (sym (lookup-put_same same_name c.computer channel d.work.computers.channels (IsSameness-same_name.reflexive c.computer))
              ∙ sym (lookup_named c.computer name entries same)
              ∙ at))
              (new_kept name same)
          | inr differs ↦
              let its : IsLastOpened w.controller name has accepted =
              kept name has (sym (put_others same_name c.computer name channel d.work.computers.channels IsSameness-same_name differs) ∙ at) in
              record {
                one = its.one;
                last = ap (λ (b : Bool). newer_if b new (last_accepted w.controller name accepted)) (opened_test name false (other_test name differs)) ∙ its.last;
                is = its.is;
              }
        ]

  abbrev its_opening : Option SecureChannelState → Option ChannelAccepted
  its_opening opened = (opening (identity_by w.controller c.computer opened) w line.call c.channel).accepted

  abbrev Comes : Option SecureChannelState → Work → Type 0
  Comes opened later = AreAsOpened (with_accepted (its_opening opened) reply accepted) w.controller later.computers × IsHere w.controller (its_opening opened)

  opening_kept : AreAsOpened (with_accepted (opening (opened_by w.controller c d) w line.call c.channel).accepted reply accepted) w.controller (answer_authenticate d.table line c d.work).computers
      × IsHere w.controller (opening (opened_by w.controller c d) w line.call c.channel).accepted
  opening_kept =
      opening_noted Comes (account_for d.table c) (lookup same_name c.computer d.work.computers.pending) line c (take_pair c.computer d.work)
      (record { denied = λ status fails. (kept, tt); accepted = λ opens. (put_kept (channel_for opens.account opens.pair c) refl, refl) })

-- ---- a call on a channel

moved_opened : (passes : Bool) (accepted : List ChannelAccepted) (controller : ℕ) (name : List ℕ) (has : SecureChannelState) (given : Authenticator) → IsLastOpened controller name has accepted →
    IsLastOpened controller name (channel_by passes has given) accepted
moved_opened false accepted controller name has given is = is
moved_opened true accepted controller name has given is =
    record { one = is.one; last = is.last; is = record { same = is.is.same; kind_is = is.is.kind_is } }

judged_kept : (accepted : List ChannelAccepted) (controller : ℕ) (c : JudgedCall) (name : List ℕ) (now : ℕ) (line : Line) (d after : Desk) → JudgedComes c name now line d after →
    AreAsOpened accepted controller d.work.computers → AreAsOpened accepted controller after.work.computers
judged_kept accepted controller c name now line d after comes kept = λ other has at.
    elim (judged_finds c name now line d after other comes) [
      | inl same ↦ kept other has (sym same ∙ at)
      | inr moves ↦
          subst (λ (x : SecureChannelState). IsLastOpened controller other x accepted) (some_is (channel_by moves.passes moves.channel moves.given) has (sym moves.now ∙ at))
          (moved_opened moves.passes accepted controller other moves.channel moves.given (kept other moves.channel moves.was))
    ]

-- a call that is for a trust leaves channels as they were opened, as it would if it were judged here
trusted_kept : (accepted : List ChannelAccepted) (w : Where) (line : Line) (c : JudgedCall) (d after : TrustDesk) → IsTrusted c d after → AreAsOpened accepted w.controller d.work.work.computers →
    AreAsOpened accepted w.controller after.work.work.computers
trusted_kept accepted w line c d after is kept =
    let done = does_what_passes.passed c w.name w.moment line (base_desk d) is.goes.next in
    let here : AreAsOpened accepted w.controller (answer_judged c w.name w.moment line (base_desk d)).work.computers =
    judged_kept accepted w.controller c w.name w.moment line (base_desk d) (answer_judged c w.name w.moment line (base_desk d)) (judged_comes c w.name w.moment line (base_desk d)) kept in
    λ name has at.
    here name has
    (ap (λ (channels : List (List ℕ × SecureChannelState)). lookup same_name name channels) (done.channels ∙ sym (ap (λ (computers : Computers). computers.channels) is.computers)) ∙ at)

-- a call is checked on what is kept
call_checked : (accepted : List ChannelAccepted) (w : Where) (line : Line) (c : JudgedCall) (d : Desk) (after : Option Desk) → AreAsOpened accepted w.controller d.work.computers →
    IsCheckedAsOpened accepted (judging_of w line c d after)
call_checked accepted w line c d after kept computer has named there =
    let its : IsLastOpened w.controller computer has accepted =
    kept computer has (ap (λ (name : Option (List ℕ)). checked_on name d.work.computers) (sym named) ∙ there) in
    last_found (IsAsOpened w.controller computer has) w.controller computer accepted its.one its.last its.is

-- ---- the units of a stream

module _ (w : Where) (accepted : List ChannelAccepted) (numbers : List ℕ) where
  abbrev pub written : List Answered → List ChannelAccepted
  written answers = onto (accepted_of answers numbers) accepted

  abbrev pub GoesOn : NotedFact
  GoesOn answers d left = KindsGo accepted (written answers) w.controller answers d.work.computers

  further : (answers : List Answered) (one : Answered) (before later : Computers) → KindsGo accepted (written answers) w.controller answers before →
      AreAsOpened (with_accepted one.accepted (first_of (numbers_left answers numbers)) (written answers)) w.controller later → IsHere w.controller one.accepted →
      HoldsIf (IsCheckedAsOpened (written answers)) one.judging → KindsGo accepted (written (answers ++ one ∷ [])) w.controller (answers ++ one ∷ []) later
  further answers one before later goes kept here checked =
      let reply : Option ℕ = first_of (numbers_left answers numbers) in
      let now : List ChannelAccepted = with_accepted one.accepted reply (written answers) in
      subst (λ (all : List ChannelAccepted). KindsGo accepted all w.controller (answers ++ one ∷ []) later) (sym (accepted_more answers one numbers accepted)) (record {
        kept = kept;
        each = all_join (λ (other : Answered). HoldsIf (IsCheckedAsOpened now) other.judging) answers (one ∷ [])
            (all_weaker (λ (other : Answered). HoldsIf (IsCheckedAsOpened (written answers)) other.judging) (λ (other : Answered). HoldsIf (IsCheckedAsOpened now) other.judging) answers
            (λ other holds. checked_more one.accepted reply (written answers) other.judging holds) goes.each)
            (checked_more one.accepted reply (written answers) one.judging checked, tt);
        others = λ at name differs. others_more one.accepted reply (written answers) w.controller at name here differs ∙ goes.others at name differs;
      })

  -- an answer that opens nothing
  opens_none : (answers : List Answered) (one : Answered) (before later : Computers) → KindsGo accepted (written answers) w.controller answers before → one.accepted ≡ None →
      AreAsOpened (written answers) w.controller later → HoldsIf (IsCheckedAsOpened (written answers)) one.judging →
      KindsGo accepted (written (answers ++ one ∷ [])) w.controller (answers ++ one ∷ []) later
  opens_none answers one before later goes none kept checked =
      further answers one before later goes
      (subst (λ (found : Option ChannelAccepted). AreAsOpened (with_accepted found (first_of (numbers_left answers numbers)) (written answers)) w.controller later) (sym none) kept)
      (subst (λ (found : Option ChannelAccepted). IsHere w.controller found) (sym none) tt) checked

  goes_stay : (link : ℕ) → StaysThrough w link w.name w.moment GoesOn
  goes_stay link = record {
    closes = λ answers d left cause goes. record { kept = goes.kept; each = goes.each; others = goes.others };
    waits = λ answers d left goes. opens_none answers silent d.work.computers d.work.computers goes refl goes.kept tt;
    sends = λ answers d left bytes goes. opens_none answers plain d.work.computers d.work.computers goes refl goes.kept tt;
    challenge = λ answers d left line c server on goes.
        opens_none answers plain d.work.computers (answer_challenge d.table line c server d.work).computers goes refl
        (challenge_comes (λ (after : Desk). AreAsOpened (written answers) w.controller after.work.computers) line c server (desk d.table d.work)
        (record { unknown = λ is. goes.kept; known = λ is. goes.kept })) tt;
    authenticate = λ answers d left line c on goes.
        let opened = opening_kept (written answers) w line c (first_of (numbers_left answers numbers)) d goes.kept in
        further answers (opening (opened_by w.controller c d) w line.call c.channel) d.work.computers (answer_authenticate d.table line c d.work).computers goes opened.0 opened.1
        (opening_holds (IsCheckedAsOpened (written answers)) (opened_by w.controller c d) w line.call c.channel);
    judged = λ answers d left line c on goes.
        let after : Desk = answer_judged c w.name w.moment line d in
        let j : Judging = judging_of w line c d (Some after) in
        opens_none answers (judged_answer j) d.work.computers after.work.computers goes (judging_none (has_passed j.how) j)
        (judged_kept (written answers) w.controller c w.name w.moment line d after (judged_comes c w.name w.moment line d) goes.kept)
        (judging_holds (IsCheckedAsOpened (written answers)) (has_passed j.how) j (call_checked (written answers) w line c d (Some after) goes.kept));
  }

  pub goes_trusting : (link : ℕ) → StaysWithTrusts w link GoesOn
  goes_trusting link = record {
    base = goes_stay link;
    trusted = λ answers d after left line c on is goes.
        let j : Judging = trusted_judging w line c d after in
        opens_none answers (trust_judged_answer j) d.work.work.computers after.work.work.computers goes (trust_none j.how j)
        (trusted_kept (written answers) w line c d after is goes.kept)
        (by_holds (IsCheckedAsOpened (written answers)) j.how j (call_checked (written answers) w line c (base_desk d) (Some (base_desk after)) goes.kept));
  }
