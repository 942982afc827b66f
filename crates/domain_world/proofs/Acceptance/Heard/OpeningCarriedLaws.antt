-- In every schedule each opening that a controller accepted, and that came in a unit of the bag, is the
-- NetrServerAuthenticate2 which that unit carries, whole, with its number and the type that it names. It serves
-- `Proved.opened_by` and `Proved.opened_kinds`.
use Rattle.std.proofs.Common.{◌≡◌, ℕ, Bool, true, false, List, [], ◌∷◌, ◌++◌, map, Option, Some, None, slice_get, refl, sym, ap, subst, ◌∙◌}
use Rattle.std.specs.List.{AllByRecursion}
use Rattle.wire_base.specs.Maps.{lookup, same_number}
use Rattle.outside.specs.declared.event.Event.TheVariants as event
use Rattle.rpc_units.specs.Calls.{IsHeard}
use Rattle.rpc_units.specs.Stream.{cut_stream}
use Rattle.rpc_units.specs.declared.unit.Unit.{Unit as RpcUnit}
use Rattle.logon_stubs.specs.declared.calls.AuthCall.{AuthCall}
use Rattle.controller_calls.specs.declared.calls.ControllerCall.TheVariants as call
use Rattle.end_links.specs.Links.{LinkState}
use Rattle.end_links.specs.Serving.{ServedUnit, served_units}
use Rattle.authenticators.specs.Channels.{ChannelIdentity}
use Rattle.domain_controller.specs.Hearing.{hear as hear_unit}
use Rattle.domain_controller.specs.Machine.{Desk, controller_server}
use Rattle.domain_controller.specs.State.{State as ControllerState}
use Rattle.domain_controller.specs.Step.{first_desk, step_of}
use Rattle.domain_controller.specs.declared.hearing.Heard.{Heard as HeardUnit}
use Rattle.domain_controller.specs.declared.hearing.Heard.TheVariants as heard
use Rattle.domain_controller.specs.declared.state.Running.{Running}
use Rattle.domain_controller.specs.declared.state.Talk.{Talk}
use Rattle.step_notes.specs.ControllerNotes.{Answered, Where, accepting, answer_on, channel_in, has_passed, heard_answer, judging_by, judging_of, opened_by, opening, passing, units_at, units_by, units_of_controller}
use Rattle.step_notes.specs.HeardWhole.{IsCallOf}
use Rattle.step_notes.specs.Records.{Book, ChannelAccepted, InUnit, Judging, Outside, Source, computer_named, unit_in}
use Rattle.step_notes.specs.Served.{work_after}
use Rattle.step_notes.proofs.Controllers.HeardLaws.{controllers_hear}
use Rattle.world_moves.specs.declared.bag.BagUnit.{BagUnit}
use Rattle.world_moves.specs.declared.links.EndId.{EndId}
use Rattle.world_moves.specs.declared.links.EndId.TheVariants.{Controller}
use Rattle.world_moves.specs.declared.links.Route.{Route}
use Rattle.world_moves.specs.declared.links.Route.TheVariants.{ToMember, ToController, Between, Stranger, FromStation}
use Rattle.world_moves.specs.declared.plan.Plan.{Plan}
use Rattle.world_moves.specs.declared.moves.Move.{Move}
use Rattle.world_moves.specs.declared.state.State.{State}
use Rattle.world_moves.specs.Acting.{AfterHearing}
use Rattle.world_moves.specs.Forms.{IsSchedule}
use Rattle.world_moves.specs.Links.{is_own, kind_of}
use Rattle.world_moves.specs.Alone.{IsPlainAlone, hear_alone as hear}
use Rattle.world_moves.proofs.LinkFrameLaws.{actions_stay}
use Rattle.domain_world.specs.Accepting.Carried.{IsWholeUnit, call_carried}
use Rattle.domain_world.specs.Accepting.Runs.{IsOfMember}
use Rattle.domain_world.specs.Past.{Delivery, accepted_of, at_controller, first_of, later_of, numbers_on, past, replied_with}
use Rattle.wire_base.proofs.ListLaws.{all_weaker, got_append, some_is}
use Rattle.domain_world.proofs.Frames.AloneNoteLaws.{alone_answers as answers_of, note_alone as note_at, note_controller_alone as note_controller}
use Rattle.domain_world.proofs.Frames.AloneStepLaws.{act_alone as hear_and_act}
use Rattle.domain_world.proofs.Acceptance.Heard.JudgedRunLaws.{judged_first, judged_keeps}
use Rattle.domain_world.proofs.Acceptance.Heard.JudgedUnitLaws.{AnyAction, AreOwn, IsWholeCarried, JudgedFact, whole_carried}
use Rattle.domain_world.proofs.Quiet.QuietListenLaws.{ListensWell, WellUnlessStopped, entries_found}
use Rattle.domain_world.proofs.Quiet.QuietRunLaws.{has_bytes, quiet_first, quiet_keeps}
use Rattle.domain_world.proofs.Quiet.QuietStepLaws.{ControllerIsQuiet, IsMade, QuietAction, QuietFact, QuietState}
use Rattle.domain_world.proofs.Frames.BagFrameLaws.{no_part, no_side, nothing_written}
use Rattle.domain_world.proofs.Frames.BagStepLaws.{BagKeeps, BookFact, run_fits}
use Rattle.domain_world.proofs.Moves.ComingLaws.{CameFrom, IsPieceOf, IsStill, StillHas}
use Rattle.domain_world.proofs.Frames.EndNoteLaws.{accepted_so, book_by}
use Rattle.domain_world.proofs.Moves.OpenMadeLaws.{IsApart, IsAtSide, IsMore, MoreOf, goes_on, no_more, side_of}
use Rattle.domain_world.proofs.Frames.StepFrameLaws.{BothFacts, BothFine, StepKeeps, NoFact, join}
use Rattle.domain_world.proofs.Judgements.JudgedLaws.{are_if_taken}
use Rattle.domain_world.proofs.Judgements.Openings.OpeningMarkLaws.{onto_all}

-- ---- what is to hold

-- the opening is that of a unit of the bag that went to a controller, with its number and its type
pub record IsCarriedOpening (bag : List BagUnit) (number kind n : ℕ) : Type 0 where
  pub carrier : BagUnit
  pub there : slice_get bag n ≡ Some carrier
  pub back : carrier.back ≡ false
  pub whole : IsWholeUnit carrier.bytes
  pub number_is : number ≡ whole.unit.call
  pub asked : AuthCall
  pub carried : call_carried whole.unit.body ≡ Some (call.Authenticate asked)
  pub kind_is : kind ≡ asked.channel

-- it came in that unit of the bag, if it came in one
abbrev pub OpenedIf : List BagUnit → Source → (number kind : ℕ) → Type 0
OpenedIf bag source number kind = (n : ℕ) → source ≡ InUnit n → IsCarriedOpening bag number kind n

abbrev pub IsOpenedWell : List BagUnit → ChannelAccepted → Type 0
IsOpenedWell bag one = OpenedIf bag one.source one.number one.kind

abbrev pub OpensFit : BookFact
OpensFit bag b = AllByRecursion (IsOpenedWell bag) b.accepted

-- ---- the units of the bag stay

opening_still : (old bag : List BagUnit) (number kind n : ℕ) → StillHas old bag → IsCarriedOpening old number kind n → IsCarriedOpening bag number kind n
opening_still old bag number kind n still is =
    let now : IsStill is.carrier bag n = still n is.carrier is.there in
    record {
      carrier = now.now;
      there = now.there;
      back = now.back ∙ is.back;
      whole = record { frames = is.whole.frames; unit = is.whole.unit; heard = subst (λ (bytes : List ℕ). IsHeard bytes is.whole.frames is.whole.unit) (sym now.bytes) is.whole.heard };
      number_is = is.number_is;
      asked = is.asked;
      carried = is.carried;
      kind_is = is.kind_is;
    }

opens_still : (old bag : List BagUnit) (b : Book) → StillHas old bag → OpensFit old b → OpensFit bag b
opens_still old bag b still all =
    all_weaker (IsOpenedWell old) (IsOpenedWell bag) b.accepted (λ one is n came. opening_still old bag one.number one.kind n still (is n came)) all

-- ---- what a controller hears

-- an opening that is heard is so
abbrev OpensSo : ((number kind : ℕ) → Type 0) → HeardUnit → Type 0
OpensSo So (heard.Close cause) = Unit {0}
OpensSo So (heard.Answer bytes talk) = Unit {0}
OpensSo So (heard.Waits talk) = Unit {0}
OpensSo So (heard.Asked line (call.Challenge c) talk) = Unit {0}
OpensSo So (heard.Asked line (call.Authenticate c) talk) = So line.call c.channel
OpensSo So (heard.Asked line (call.Judged c) talk) = Unit {0}

opens_any : (So : (number kind : ℕ) → Type 0) (what : HeardUnit) → ((number kind : ℕ) → So number kind) → OpensSo So what
opens_any So (heard.Close cause) all = tt
opens_any So (heard.Answer bytes talk) all = tt
opens_any So (heard.Waits talk) all = tt
opens_any So (heard.Asked line (call.Challenge c) talk) all = tt
opens_any So (heard.Asked line (call.Authenticate c) talk) all = all line.call c.channel
opens_any So (heard.Asked line (call.Judged c) talk) all = tt

opens_of : (So : (number kind : ℕ) → Type 0) (unit : RpcUnit) (what : HeardUnit) →
    ((number : ℕ) (c : AuthCall) → number ≡ unit.call → call_carried unit.body ≡ Some (call.Authenticate c) → So number c.channel) → IsCallOf unit what → OpensSo So what
opens_of So unit (heard.Close cause) so is = tt
opens_of So unit (heard.Answer bytes talk) so is = tt
opens_of So unit (heard.Waits talk) so is = tt
opens_of So unit (heard.Asked line (call.Challenge c) talk) so is = tt
opens_of So unit (heard.Asked line (call.Authenticate c) talk) so is = so line.call c is.0 is.1
opens_of So unit (heard.Asked line (call.Judged c) talk) so is = tt

-- `Fits` holds of the channel that is accepted, if one is
abbrev IfThere : (Fits : ChannelAccepted → Type 0) → Option ChannelAccepted → Type 0
IfThere Fits None = Unit {0}
IfThere Fits (Some one) = Fits one

passing_opens : (Fits : ChannelAccepted → Type 0) (channel : Option ChannelIdentity) (j : Judging) → IfThere Fits (passing channel j).accepted
passing_opens Fits None j = tt
passing_opens Fits (Some channel) j = tt

judging_opens : (Fits : ChannelAccepted → Type 0) (passed : Bool) (j : Judging) → IfThere Fits (judging_by passed j).accepted
judging_opens Fits false j = tt
judging_opens Fits true j = passing_opens Fits (channel_in j.controller (computer_named j.asked) j.checks) j

opening_opens : (Fits : ChannelAccepted → Type 0) (channel : Option ChannelIdentity) (w : Where) (number kind : ℕ) → ((c : ChannelIdentity) → Fits (accepting w number kind c)) →
    IfThere Fits (opening channel w number kind).accepted
opening_opens Fits None w number kind fits = tt
opening_opens Fits (Some channel) w number kind fits = fits channel

answer_opens : (Fits : ChannelAccepted → Type 0) (So : (number kind : ℕ) → Type 0) (what : HeardUnit) (w : Where) (d : Desk) (after : Option Desk) →
    ((number kind : ℕ) (c : ChannelIdentity) → So number kind → Fits (accepting w number kind c)) → OpensSo So what → IfThere Fits (heard_answer what w d after).accepted
answer_opens Fits So (heard.Close cause) w d after fits is = tt
answer_opens Fits So (heard.Answer bytes talk) w d after fits is = tt
answer_opens Fits So (heard.Waits talk) w d after fits is = tt
answer_opens Fits So (heard.Asked line (call.Challenge c) talk) w d after fits is = tt
answer_opens Fits So (heard.Asked line (call.Authenticate c) talk) w d after fits is =
    opening_opens Fits (opened_by w.controller c d) w line.call c.channel (λ channel. fits line.call c.channel channel is)
answer_opens Fits So (heard.Asked line (call.Judged c) talk) w d after fits is =
    judging_opens Fits (has_passed (judging_of w line c d after).how) (judging_of w line c d after)

-- of all units that are served
abbrev AllOpenSo : ((number kind : ℕ) → Type 0) → ℕ → List (ServedUnit Desk Talk) → Type 0
AllOpenSo So link units = AllByRecursion (λ (served : ServedUnit Desk Talk). OpensSo So (hear_unit link served.bytes served.talk)) units

any_opens : (So : (number kind : ℕ) → Type 0) (link : ℕ) (units : List (ServedUnit Desk Talk)) → ((number kind : ℕ) → So number kind) → AllOpenSo So link units
any_opens So link [] all = tt
any_opens So link (served ∷ units) all = (opens_any So (hear_unit link served.bytes served.talk) all, any_opens So link units all)

each_opens : (So : (number kind : ℕ) → Type 0) (link : ℕ) (unit : RpcUnit) (units : List (ServedUnit Desk Talk)) →
    ((number : ℕ) (c : AuthCall) → number ≡ unit.call → call_carried unit.body ≡ Some (call.Authenticate c) → So number c.channel) →
    AllByRecursion (λ (served : ServedUnit Desk Talk). IsCallOf unit (hear_unit link served.bytes served.talk)) units → AllOpenSo So link units
each_opens So link unit [] so all = tt
each_opens So link unit (served ∷ units) so all = (opens_of So unit (hear_unit link served.bytes served.talk) so all.0, each_opens So link unit units so all.1)

module _ (c : ControllerState) (s : State) (w : Delivery) (piece : List ℕ) (number : ℕ) (is : IsWholeCarried s number w piece) (So : (number kind : ℕ) → Type 0)
    (so : (n : ℕ) (asked : AuthCall) → n ≡ is.send.unit.call → call_carried is.send.unit.body ≡ Some (call.Authenticate asked) → So n asked.channel) where
  link_opens : (found : Option (LinkState Talk)) (running : Running) →
      ((link : LinkState Talk) → found ≡ Some link → ListensWell (IsOfMember s.links) (IsMade s.links) w.link link) →
      AllOpenSo So w.link (units_at found w.link piece c running s.moment s.chances.left)
  link_opens None running listens = tt
  link_opens (Some link) running listens =
      let well : ListensWell (IsOfMember s.links) (IsMade s.links) w.link link = listens link refl in
      let bytes : link.rest ++ piece ≡ is.unit.bytes = ap (λ (rest : List ℕ). rest ++ piece) (well.rest is.own) ∙ sym is.same in
      subst (λ (all : List ℕ). AllOpenSo So w.link (served_units (controller_server c.name s.moment w.link) (cut_stream all).units (first_desk c.table running) link.talk s.chances.left)) (sym bytes)
      (each_opens So w.link is.send.unit (served_units (controller_server c.name s.moment w.link) (cut_stream is.unit.bytes).units (first_desk c.table running) link.talk s.chances.left) so
      (controllers_hear.calls c.name s.moment w.link is.unit.bytes is.send.frames is.send.unit (first_desk c.table running) link.talk s.chances.left is.send.heard (well.joiner is.own)))

  running_opens : (r : Option Running) → WellUnlessStopped (IsOfMember s.links) (IsMade s.links) r → AllOpenSo So w.link (units_by r w.link piece c s.moment s.chances.left)
  running_opens None well = tt
  running_opens (Some running) well =
      link_opens (lookup same_number w.link running.links) running
      (λ link there. entries_found (ListensWell (IsOfMember s.links) (IsMade s.links)) w.link running.links link there well)

-- ---- the unit in which it came

-- a controller hears what goes to it
to_it : (back : Bool) (route : Route) (at : ℕ) → IsApart route → side_of back route ≡ Some (Controller at) → is_own (kind_of route) ≡ true → back ≡ false
to_it back (Between from to) at apart is own = absurd apart
to_it back (FromStation station controller) at apart is own = absurd apart
to_it back (Stranger to) at apart is own = absurd (let never : false ≡ true = own in cc)
to_it false (ToController member controller) at apart is own = refl
to_it true (ToController member controller) at apart is own = absurd cc
to_it false (ToMember one server) at apart is own = absurd cc
to_it true (ToMember one server) at apart is own = absurd cc

unit_opens : (s : State) (number at : ℕ) (w : Delivery) (piece : List ℕ) (is : IsWholeCarried s number w piece) → AreOwn s.bag → IsAtSide s.links w.link w.back (Controller at) →
    IsPieceOf s number w piece → w.source ≡ InUnit number → (n : ℕ) (asked : AuthCall) → n ≡ is.send.unit.call →
    call_carried is.send.unit.body ≡ Some (call.Authenticate asked) → OpenedIf s.bag w.source n asked.channel
unit_opens s number at w piece is own side came from n asked numbered carries other there =
    let same : number ≡ other = some_is number other (ap unit_in (sym from ∙ there)) in
    let one : came.unit ≡ is.unit = some_is came.unit is.unit (sym came.there ∙ is.there) in
    let route : side.route ≡ came.route = some_is side.route came.route (sym side.made ∙ came.made) in
    let back : w.back ≡ false =
    to_it w.back side.route at side.apart side.side (ap (λ (r : Route). is_own (kind_of r)) route ∙ ap is_own came.same_kind ∙ own number came.unit came.there) in
    subst (λ (m : ℕ). IsCarriedOpening s.bag n asked.channel m) same (record {
      carrier = is.unit;
      there = is.there;
      back = ap (λ (u : BagUnit). u.back) (sym one) ∙ came.back ∙ back;
      whole = record { frames = is.send.frames; unit = is.send.unit; heard = is.send.heard };
      number_is = numbered;
      asked = asked;
      carried = carries;
      kind_is = refl;
    })

-- by where the bytes come from
units_open : (source : Source) (c : ControllerState) (at : ℕ) (s : State) (w : Delivery) (piece : List ℕ) → w.source ≡ source → QuietState s → AreOwn s.bag → ControllerIsQuiet s.links c →
    IsAtSide s.links w.link w.back (Controller at) → CameFrom source s w piece → AllOpenSo (OpenedIf s.bag w.source) w.link (units_by c.running w.link piece c s.moment s.chances.left)
units_open Outside c at s w piece is quiet kinds own side came =
    any_opens (OpenedIf s.bag w.source) w.link (units_by c.running w.link piece c s.moment s.chances.left) (λ number kind n there. absurd (let never = sym is ∙ there in cc))
units_open (InUnit number) c at s w piece is quiet kinds own side came =
    let whole : IsWholeCarried s number w piece = whole_carried s number at w piece quiet.bag kinds side came in
    running_opens c s w piece number whole (OpenedIf s.bag w.source) (λ n asked numbered carries. unit_opens s number at w piece whole kinds side came is n asked numbered carries) c.running own.well

-- ---- what is written down of it

served_open : (bag : List BagUnit) (w : Where) (link : ℕ) (units : List (ServedUnit Desk Talk)) → AllOpenSo (OpenedIf bag w.source) link units →
    AllByRecursion (λ (one : Answered). IfThere (IsOpenedWell bag) one.accepted) (map (answer_on link w) units)
served_open bag w link [] all = tt
served_open bag w link (unit ∷ units) all = (
  answer_opens (IsOpenedWell bag) (OpenedIf bag w.source) (hear_unit link unit.bytes unit.talk) w unit.work (work_after unit.part) (λ number kind c is. is) all.0,
  served_open bag w link units all.1,
)

replied_well : (bag : List BagUnit) (accepted : Option ChannelAccepted) (number : Option ℕ) (later : List ChannelAccepted) → IfThere (IsOpenedWell bag) accepted →
    AllByRecursion (IsOpenedWell bag) later → AllByRecursion (IsOpenedWell bag) (replied_with accepted number ++ later)
replied_well bag None number later is all = all
replied_well bag (Some one) number later is all = (is, all)

accepted_well : (bag : List BagUnit) (answers : List Answered) (numbers : List ℕ) → AllByRecursion (λ (one : Answered). IfThere (IsOpenedWell bag) one.accepted) answers →
    AllByRecursion (IsOpenedWell bag) (accepted_of answers numbers)
accepted_well bag [] numbers all = tt
accepted_well bag (one ∷ answers) numbers all =
    replied_well bag one.accepted (first_of numbers) (accepted_of answers (later_of one.sends numbers)) all.0 (accepted_well bag answers (later_of one.sends numbers) all.1)

controller_fits : (at : ℕ) (w : Delivery) (piece : List ℕ) (s after : State) (c : ControllerState) (b : Book) → slice_get s.ends.controllers at ≡ Some c → QuietState s → AreOwn s.bag →
    IsAtSide s.links w.link w.back (Controller at) → CameFrom w.source s w piece → OpensFit s.bag b → OpensFit s.bag (note_controller (Some c) at w piece s after b)
controller_fits at w piece s after c b is quiet kinds side came fits =
    let answers : List Answered = answers_of at c w piece s in
    let numbers : List ℕ = numbers_on w.link true s.bag after.bag in
    let opens : AllOpenSo (OpenedIf s.bag w.source) w.link (units_of_controller c w.link piece s.moment s.chances.left) =
    are_if_taken (λ (served : ServedUnit Desk Talk). OpensSo (OpenedIf s.bag w.source) (hear_unit w.link served.bytes served.talk))
    (step_of c (event.Bytes w.link piece) s.moment s.chances.left).answer (units_by c.running w.link piece c s.moment s.chances.left)
    (units_open w.source c at s w piece refl quiet kinds (quiet.controllers at c is) side came) in
    onto_all (IsOpenedWell s.bag) (accepted_of answers numbers) b.accepted
    (accepted_well s.bag answers numbers (served_open s.bag (at_controller at c w s) w.link (units_of_controller c w.link piece s.moment s.chances.left) opens)) fits

end_fits : (end : EndId) (w : Delivery) (piece : List ℕ) (s after : State) (b : Book) → QuietState s → AreOwn s.bag → IsAtSide s.links w.link w.back end → CameFrom w.source s w piece →
    OpensFit s.bag b → OpensFit s.bag (note_at (Some end) w piece s after b)
end_fits end w piece s after b quiet kinds side came fits =
    book_by (λ (one : EndId) (now : Book). IsAtSide s.links w.link w.back one → OpensFit s.bag now) w piece s after b (λ one here. fits)
    (λ at c is here. controller_fits at w piece s after c b is quiet kinds here came fits)
    (λ at m is here. subst (λ (accepted : List ChannelAccepted). AllByRecursion (IsOpenedWell s.bag) accepted) (sym (accepted_so.members m at w piece s after b)) fits) (λ at c is here. fits) end side

comes_fit : (n : ℕ) (end : EndId) (w : Delivery) (piece : List ℕ) (s : State) (b : Book) → QuietState s → AreOwn s.bag → IsAtSide s.links w.link w.back end → CameFrom w.source s w piece →
    OpensFit s.bag b → OpensFit (hear_and_act end (event.Bytes w.link piece) s).state.bag (note_at (Some end) w piece s (hear_and_act end (event.Bytes w.link piece) s).state b)
comes_fit n end w piece s b quiet kinds side came fits =
    let what : AfterHearing = hear end (event.Bytes w.link piece) s in
    let after : State = (hear_and_act end (event.Bytes w.link piece) s).state in
    let more : IsMore s.links s.bag after.links after.bag = actions_stay (MoreOf s.links s.bag) (goes_on s.links s.bag) end what.actions what.state (no_more s.links s.bag) in
    opens_still s.bag after.bag (note_at (Some end) w piece s after b)
    (λ number one there.
    record { now = one; there = ap (λ (all : List BagUnit). slice_get all number) more.is ∙ got_append s.bag more.units number one there; bytes = refl; link = refl; kind = refl; back = refl })
    (end_fits end w piece s after b quiet kinds side came fits)

opens_keep : BagKeeps (BothFacts QuietFact JudgedFact) no_part no_side OpensFit
opens_keep = record {
  still = opens_still;
  comes = λ n end w piece s given b side came bytes marked known none fits. comes_fit n end w piece s b known.0 known.1.kinds side came fits;
  over = λ at given s b fits. fits;
}

-- ---- a run

pub openings_carried : (plan : Plan) (moves : List Move) → IsPlainAlone plan → IsSchedule plan moves → OpensFit (past plan moves).world.state.bag (past plan moves).book
openings_carried plan moves nobody is =
    let both : StepKeeps NoFact (BothFacts QuietFact JudgedFact) (BothFine QuietAction AnyAction) = join QuietFact JudgedFact QuietAction AnyAction quiet_keeps judged_keeps in
    run_fits (BothFacts QuietFact JudgedFact) (BothFine QuietAction AnyAction) both no_part no_side nothing_written OpensFit opens_keep plan moves nobody (has_bytes plan moves nobody is)
    (quiet_first plan is.start is.forms, judged_first) tt tt
