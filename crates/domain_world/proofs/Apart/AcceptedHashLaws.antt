-- What a controller answers in a step at one whole unit of the bag: an opening that it accepts is the call of the unit,
-- and has the hash of the account that this call names; a call that it judges is the call of the unit, and is checked
-- on the channel that was accepted last. It serves `Proved.never_apart`.
use Rattle.std.proofs.Common.{◌≡◌, ℕ, Bool, true, false, List, [], ◌∷◌, ◌++◌, Option, Some, None, Ok, Err, refl, sym, ap, subst, ◌∙◌}
use Rattle.std.specs.Prelude.{bytes_eq}
use Rattle.std.specs.List.{AllByRecursion}
use Rattle.wire_base.specs.Maps.{lookup, same_number}
use Rattle.wire_base.specs.Names.{same_name}
use Rattle.ntlm_flags.specs.Flags.{has_flag}
use Rattle.channel_keys.specs.Credentials.{cred_of}
use Rattle.channel_keys.specs.Flags.{rc4_flag}
use Rattle.outside.specs.declared.event.Event.TheVariants as event
use Rattle.authenticators.specs.Channels.{ChannelIdentity}
use Rattle.authenticators.specs.SecureChannels.{SecureChannelState, key_of_channel}
use Rattle.rpc_units.specs.Stream.{cut_stream}
use Rattle.rpc_units.specs.declared.unit.Unit.{Unit as RpcUnit}
use Rattle.logon_stubs.specs.declared.calls.AuthCall.{AuthCall}
use Rattle.logon_stubs.specs.declared.calls.ChallengeCall.{ChallengeCall}
use Rattle.account_table.specs.AccountTable.{AccountTable}
use Rattle.account_table.specs.declared.account.Account.{Account}
use Rattle.end_links.specs.Links.{LinkState}
use Rattle.end_links.specs.Serving.{ServedPart, ServedUnit, served_units}
use Rattle.end_links.proofs.KeepLaws.{comes_to, unit_served}
use Rattle.controller_calls.specs.declared.calls.ControllerCall.{ControllerCall}
use Rattle.controller_calls.specs.declared.calls.ControllerCall.TheVariants as call
use Rattle.controller_calls.specs.declared.calls.JudgedCall.{JudgedCall}
use Rattle.controller_calls.specs.declared.line.Line.{Line}
use Rattle.controller_calls.specs.declared.state.ChallengePair.{ChallengePair}
use Rattle.controller_calls.specs.declared.state.Computers.{Computers}
use Rattle.domain_controller.specs.Hearing.{hear}
use Rattle.domain_controller.specs.Machine.{Desk, account_for, answer_judged, by_heard, channel_for, controller_server, draw_challenge}
use Rattle.domain_controller.specs.State.{State as ControllerState}
use Rattle.domain_controller.specs.Step.{first_desk, step_of}
use Rattle.domain_controller.specs.declared.hearing.Heard.{Heard}
use Rattle.domain_controller.specs.declared.hearing.Heard.TheVariants as heard
use Rattle.domain_controller.specs.declared.state.Running.{Running}
use Rattle.domain_controller.specs.declared.state.Talk.{Talk}
use Rattle.step_notes.specs.ControllerNotes.{Answered, Where, accepting, answer_on, channel_in, checked_on, has_passed, heard_answer, identity_by, judged_answer, judging_of, opened_account, opened_by, opened_if, opened_offer, opened_pair, opening, plain, silent, units_at, units_by, units_of_controller}
use Rattle.step_notes.specs.HeardWhole.{IsCallOf, call_carried}
use Rattle.step_notes.specs.KeptNotes.{keeps_in}
use Rattle.step_notes.specs.Records.{ChannelAccepted, Judging, computer_named}
use Rattle.step_notes.specs.Served.{work_after}
use Rattle.step_notes.proofs.ServedLaws.{all_mapped, served_beside}
use Rattle.step_notes.proofs.Controllers.HeardLaws.{controllers_hear}
use Rattle.step_notes.proofs.Controllers.KeptNoteLaws.{calls_are_kept}
use Rattle.wire_base.proofs.ListLaws.{no_some, some_is}
use Rattle.world_moves.specs.declared.state.State.{State}
use Rattle.domain_world.specs.Accepting.Runs.{IsOfMember}
use Rattle.domain_world.specs.Claims.Openings.{IsLastAccepted}
use Rattle.domain_world.specs.Past.{Delivery, at_controller}
use Rattle.domain_world.proofs.Frames.AloneNoteLaws.{alone_answers as answers_of}
use Rattle.domain_world.proofs.Acceptance.Heard.JudgedUnitLaws.{IsWholeCarried}
use Rattle.domain_world.proofs.Quiet.QuietListenLaws.{ListensWell, WellUnlessStopped, entries_found}
use Rattle.domain_world.proofs.Quiet.QuietStepLaws.{IsMade}
use Rattle.domain_world.proofs.Judgements.ChainLaws.{judged_judging, opening_judging}
use Rattle.domain_world.proofs.Judgements.JudgedLaws.{are_if_taken}
use Rattle.domain_world.proofs.Judgements.Openings.OpeningLaws.{judging_none}
use Rattle.domain_world.proofs.Judgements.Openings.OpeningRunLaws.{AreOpenedIf}

-- ---- an opening

-- the channel has the hash of the account that the call names, for the computer that it names
pub record IsOpenedFor (controller : ℕ) (table : AccountTable) (call : AuthCall) (channel : ChannelIdentity) : Type 0 where
  pub account : Account
  pub found : account_for table call ≡ Some account
  pub secret : channel.secret ≡ account.hash
  pub computer : channel.computer ≡ call.computer
  pub controller_is : channel.controller ≡ controller

module _ (controller : ℕ) (c : AuthCall) (account : Account) where
  -- a channel that is found has the account's hash, the call's computer and that controller
  abbrev HasHash : Option ChannelIdentity → Type 0
  HasHash found = (channel : ChannelIdentity) → found ≡ Some channel → (channel.secret ≡ account.hash) × (channel.computer ≡ c.computer) × (channel.controller ≡ controller)

  if_opened : (accepted : Bool) (state : SecureChannelState) → state.secret ≡ account.hash → HasHash (identity_by controller c.computer (opened_if accepted state))
  if_opened false state is channel found = absurd (no_some channel found)
  if_opened true state is channel found =
      subst (λ (x : ChannelIdentity). (x.secret ≡ account.hash) × (x.computer ≡ c.computer) × (x.controller ≡ controller)) (some_is _ channel found) (is, refl, refl)

  pair_opened : (pair : Option ChallengePair) → HasHash (identity_by controller c.computer (opened_pair pair account c))
  pair_opened None channel found = absurd (no_some channel found)
  pair_opened (Some pair) channel found =
      let state : SecureChannelState = channel_for account pair c in if_opened (bytes_eq c.credential (cred_of (key_of_channel state) state.client)) state refl channel found

  offer_opened : (offers : Bool) (pair : Option ChallengePair) → HasHash (identity_by controller c.computer (opened_offer offers pair account c))
  offer_opened false pair channel found = absurd (no_some channel found)
  offer_opened true pair channel found = pair_opened pair channel found

account_opened : (controller : ℕ) (table : AccountTable) (c : AuthCall) (found : Option Account) (pair : Option ChallengePair) → account_for table c ≡ found → (channel : ChannelIdentity) →
    identity_by controller c.computer (opened_account found pair c) ≡ Some channel → IsOpenedFor controller table c channel
account_opened controller table c None pair is channel opened = absurd (no_some channel opened)
account_opened controller table c (Some account) pair is channel opened =
    let its = offer_opened controller c account (has_flag c.flags rc4_flag) pair channel opened in
    record { account = account; found = is; secret = its.0; computer = its.1; controller_is = its.2 }

-- ---- what holds of an answer

-- the call of the unit opened the channel
pub record OpensBy (controller : ℕ) (unit : RpcUnit) (table : AccountTable) (a : ChannelAccepted) : Type 0 where
  pub asked : AuthCall
  pub carried : call_carried unit.body ≡ Some (call.Authenticate asked)
  pub opened : IsOpenedFor controller table asked a.channel

-- the call of the unit was judged, and is checked on what was accepted last for the computer that it names
pub record JudgesBy (controller : ℕ) (unit : RpcUnit) (accepted : List ChannelAccepted) (j : Judging) : Type 0 where
  pub carried : call_carried unit.body ≡ Some (call.Judged j.asked)
  pub keeps : (computer : List ℕ) (c : ChannelIdentity) → computer_named j.asked ≡ Some computer → channel_in j.controller (computer_named j.asked) j.checks ≡ Some c →
      IsLastAccepted controller computer c accepted

pub record IsOfUnit (controller : ℕ) (unit : RpcUnit) (accepted : List ChannelAccepted) (table : AccountTable) (one : Answered) : Type 0 where
  pub opens : (a : ChannelAccepted) → one.accepted ≡ Some a → OpensBy controller unit table a
  pub judges : (j : Judging) → one.judging ≡ Some j → JudgesBy controller unit accepted j

-- ---- the units of the step

front_of : {T : Type 0} (P : T → Type 0) (items : List T) (last : T) → AllByRecursion P (items ++ last ∷ []) → AllByRecursion P items × P last
front_of P [] last all = (tt, all.0)
front_of P (item ∷ items) last all = let rest = front_of P items last all.1 in ((all.0, rest.0), rest.1)

with_last : {T : Type 0} (P : T → Type 0) (items : List T) (last : T) → AllByRecursion P items → P last → AllByRecursion P (items ++ last ∷ [])
with_last P [] last all is = (is, tt)
with_last P (item ∷ items) last all is = (all.0, with_last P items last all.1 is)

pub not_both : (found : Option ControllerCall) (one : AuthCall) (other : JudgedCall) → found ≡ Some (call.Authenticate one) → found ≡ Some (call.Judged other) → ⊥
not_both found one other is also = let both : Some (call.Authenticate one) ≡ Some (call.Judged other) = sym is ∙ also in let never = both in cc

module _ (w : Where) (link : ℕ) (name : List ℕ) (now : ℕ) (unit : RpcUnit) (accepted : List ChannelAccepted) (table : AccountTable) where
  -- what is known of the controller at work: where the unit carries an opening the accounts are those before the step,
  -- and where it carries a call that is judged, each channel that is kept is the one that was accepted last
  record StandsSo (d : Desk) : Type 0 where
    table_is : (c : AuthCall) → call_carried unit.body ≡ Some (call.Authenticate c) → d.table ≡ table
    keeps : (asked : JudgedCall) → call_carried unit.body ≡ Some (call.Judged asked) → (computer : List ℕ) (c : ChannelIdentity) →
        keeps_in w.controller d.work.computers computer ≡ Some c → IsLastAccepted w.controller computer c accepted

  abbrev StandsIf : ServedPart Desk Talk → Type 0
  StandsIf (Err why) = Unit {0}
  StandsIf (Ok part) = StandsSo part.value.0

  abbrev Is : Answered → Type 0
  Is one = IsOfUnit w.controller unit accepted table one

  is_silent : Is silent
  is_silent = record { opens = λ a is. absurd (no_some a is); judges = λ j is. absurd (no_some j is) }

  is_plain : Is plain
  is_plain = record { opens = λ a is. absurd (no_some a is); judges = λ j is. absurd (no_some j is) }

  opened_is : (found : Option ChannelIdentity) (number kind : ℕ) (c : AuthCall) → call_carried unit.body ≡ Some (call.Authenticate c) →
      ((channel : ChannelIdentity) → found ≡ Some channel → IsOpenedFor w.controller table c channel) → (a : ChannelAccepted) → (opening found w number kind).accepted ≡ Some a → OpensBy w.controller unit table a
  opened_is None number kind c carried opened a is = absurd (no_some a is)
  opened_is (Some channel) number kind c carried opened a is =
      subst (λ (x : ChannelAccepted). OpensBy w.controller unit table x) (some_is (accepting w number kind channel) a is) (record { asked = c; carried = carried; opened = opened channel refl })

  is_opening : (d : Desk) (line : Line) (c : AuthCall) → call_carried unit.body ≡ Some (call.Authenticate c) → StandsSo d → Is (opening (opened_by w.controller c d) w line.call c.channel)
  is_opening d line c carried stands = record {
    opens = opened_is (opened_by w.controller c d) line.call c.channel c carried
        (λ channel opened.
        account_opened w.controller table c (account_for d.table c) (lookup same_name c.computer d.work.computers.pending) (ap (λ (t : AccountTable). account_for t c) (sym (stands.table_is c carried)))
        channel opened);
    judges = λ j is. absurd (no_some j (sym (opening_judging (opened_by w.controller c d) w line.call c.channel) ∙ is));
  }

  kept_by : (found : Option (List ℕ)) (computers : Computers) (computer : List ℕ) → found ≡ Some computer → (c : ChannelIdentity) →
      channel_in w.controller found (checked_on found computers) ≡ Some c → keeps_in w.controller computers computer ≡ Some c
  kept_by None computers computer is c on = absurd (no_some computer is)
  kept_by (Some own) computers computer is c on = ap (λ (n : List ℕ). keeps_in w.controller computers n) (sym (some_is own computer is)) ∙ on

  is_judged : (d : Desk) (line : Line) (c : JudgedCall) (after : Option Desk) → call_carried unit.body ≡ Some (call.Judged c) → StandsSo d → Is (judged_answer (judging_of w line c d after))
  is_judged d line c after carried stands =
      let own : Judging = judging_of w line c d after in
      record {
        opens = λ a is. absurd (no_some a (sym (judging_none (has_passed own.how) own) ∙ is));
        judges = λ j is.
            subst (λ (x : Judging). JudgesBy w.controller unit accepted x) (some_is own j (sym (judged_judging (has_passed own.how) own) ∙ is)) (record {
              carried = carried;
              keeps = λ computer channel named on. stands.keeps c carried computer channel (kept_by (computer_named c) d.work.computers computer named channel on);
            });
      }

  drawn : (left : List (List ℕ)) (line : Line) (c : ChallengeCall) (talk : Talk) (d : Desk) → call_carried unit.body ≡ Some (call.Challenge c) → StandsSo d → StandsIf (draw_challenge left line c talk d)
  drawn [] line c talk d carried stands = tt
  drawn (server ∷ left) line c talk d carried stands = record {
    table_is = stands.table_is;
    keeps = λ asked judged. absurd (let both : Some (call.Challenge c) ≡ Some (call.Judged asked) = sym carried ∙ judged in let never = both in cc);
  }

  unit_is : (what : Heard) (d : Desk) (left : List (List ℕ)) → IsCallOf unit what → StandsSo d →
      Is (heard_answer what w d (work_after (by_heard what link name now d left))) × StandsIf (by_heard what link name now d left)
  unit_is (heard.Close cause) d left of stands = (is_silent, record { table_is = stands.table_is; keeps = stands.keeps })
  unit_is (heard.Answer bytes talk) d left of stands = (is_plain, record { table_is = stands.table_is; keeps = stands.keeps })
  unit_is (heard.Waits talk) d left of stands = (is_silent, stands)
  unit_is (heard.Asked line (call.Challenge c) talk) d left of stands = (is_plain, drawn left line c talk d of.1 stands)
  unit_is (heard.Asked line (call.Authenticate c) talk) d left of stands = (
    is_opening d line c of.1 stands,
    record { table_is = stands.table_is; keeps = λ asked judged. absurd (not_both (call_carried unit.body) c asked of.1 judged) },
  )
  unit_is (heard.Asked line (call.Judged c) talk) d left of stands = (
    is_judged d line c (Some (answer_judged c name now line d)) of.1 stands,
    record {
      table_is = λ opens carried. absurd (not_both (call_carried unit.body) opens c carried of.1);
      keeps = λ asked judged computer channel on. stands.keeps asked judged computer channel ((calls_are_kept.judged w.controller c name now line d).keeps computer channel on);
    },
  )

  -- ---- all units of the bytes

  abbrev Hears : ServedUnit Desk Talk → Type 0
  Hears served = IsCallOf unit (hear link served.bytes served.talk)

  abbrev IsAnswered : ServedUnit Desk Talk → Type 0
  IsAnswered served = Is (answer_on link w served)

  abbrev Served : List (ServedUnit Desk Talk) → ServedPart Desk Talk → Type 0
  Served done part = AllByRecursion Hears done → AllByRecursion IsAnswered done × StandsIf part

  one_more : (done : List (ServedUnit Desk Talk)) (bytes : List ℕ) (work : Desk) (talk : Talk) (left : List (List ℕ)) → Served done (comes_to work (Some talk) left) →
      Served (done ++ unit_served (controller_server name now link) bytes work talk left ∷ []) ((controller_server name now link).unit bytes work talk left)
  one_more done bytes work talk left served all =
      let one : ServedUnit Desk Talk = unit_served (controller_server name now link) bytes work talk left in
      let parts = front_of Hears done one all in
      let before = served parts.0 in
      let its = unit_is (hear link bytes talk) work left parts.1 before.1 in
      (with_last IsAnswered done one before.0 its.0, its.1)

  whole_answers : (bytes : List ℕ) (d : Desk) (talk : Talk) (left : List (List ℕ)) → AllByRecursion Hears (served_units (controller_server name now link) (cut_stream bytes).units d talk left) → StandsSo d →
      AllByRecursion IsAnswered (served_units (controller_server name now link) (cut_stream bytes).units d talk left)
  whole_answers bytes d talk left all stands =
      (served_beside (controller_server name now link) Served (record {
        unit = one_more;
        refusal = λ done why work said rest served heard. let before = served heard in (before.0, record { table_is = before.1.table_is; keeps = before.1.keeps });
      }) (cut_stream bytes) d talk left (λ none. (tt, stands)) all).0

-- ---- a step of a controller

module _ (c : ControllerState) (at : ℕ) (w : Delivery) (piece : List ℕ) (s : State) (number : ℕ) (is : IsWholeCarried s number w piece) (accepted : List ChannelAccepted) where
  abbrev its : Where
  its = at_controller at c w s

  abbrev Answers : ServedUnit Desk Talk → Type 0
  Answers served = IsOfUnit at is.send.unit accepted c.table (answer_on w.link its served)

  link_answers : (found : Option (LinkState Talk)) (running : Running) → AreOpenedIf accepted s.chances.left at (Some running) →
      ((link : LinkState Talk) → found ≡ Some link → ListensWell (IsOfMember s.links) (IsMade s.links) w.link link) →
      AllByRecursion Answers (units_at found w.link piece c running s.moment s.chances.left)
  link_answers None running kept listens = tt
  link_answers (Some link) running kept listens =
      let well : ListensWell (IsOfMember s.links) (IsMade s.links) w.link link = listens link refl in
      let bytes : link.rest ++ piece ≡ is.unit.bytes = ap (λ (rest : List ℕ). rest ++ piece) (well.rest is.own) ∙ sym is.same in
      subst (λ (all : List ℕ). AllByRecursion Answers (served_units (controller_server c.name s.moment w.link) (cut_stream all).units (first_desk c.table running) link.talk s.chances.left)) (sym bytes)
      (whole_answers its w.link c.name s.moment is.send.unit accepted c.table is.unit.bytes (first_desk c.table running) link.talk s.chances.left
      (controllers_hear.calls c.name s.moment w.link is.unit.bytes is.send.frames is.send.unit (first_desk c.table running) link.talk s.chances.left is.send.heard (well.joiner is.own))
      (record { table_is = λ call carried. refl; keeps = λ asked carried computer channel on. kept.keeps computer channel on }))

  running_answers : (r : Option Running) → WellUnlessStopped (IsOfMember s.links) (IsMade s.links) r → AreOpenedIf accepted s.chances.left at r →
      AllByRecursion Answers (units_by r w.link piece c s.moment s.chances.left)
  running_answers None well kept = tt
  running_answers (Some running) well kept =
      link_answers (lookup same_number w.link running.links) running kept
      (λ link there. entries_found (ListensWell (IsOfMember s.links) (IsMade s.links)) w.link running.links link there well)

  pub unit_answers : WellUnlessStopped (IsOfMember s.links) (IsMade s.links) c.running → AreOpenedIf accepted s.chances.left at c.running →
      AllByRecursion (IsOfUnit at is.send.unit accepted c.table) (answers_of at c w piece s)
  unit_answers well kept =
      all_mapped (IsOfUnit at is.send.unit accepted c.table) (answer_on w.link its) (units_of_controller c w.link piece s.moment s.chances.left)
      (are_if_taken Answers (step_of c (event.Bytes w.link piece) s.moment s.chances.left).answer (units_by c.running w.link piece c s.moment s.chances.left) (running_answers c.running well kept))
