-- What the units of a link have told at a controller that can seal, and the steps that serve them. It serves
-- `calls_pass_on_their_own_links`.
use Rattle.std.proofs.Common.{◌≡◌, ◌&&◌, ℕ, Bool, true, false, List, [], ◌∷◌, ◌++◌, Option, Some, None, Result, Ok, Err, refl, sym, ap, subst, ◌∙◌, append-nil, append_assoc, inl, inr}
use Rattle.std.proofs.lemmas.Bool.{cases_Bool}
use Rattle.std.proofs.lemmas.List.Concat.{flat_map-append}
use Rattle.wire_base.specs.Maps.{lookup, same_number, take_out}
use Rattle.wire_base.specs.Names.{same_name}
use Rattle.account_table.specs.AccountTable.{AccountTable}
use Rattle.account_table.specs.LookUps.{knows_in}
use Rattle.account_table.specs.declared.account.Trust.{Trust}
use Rattle.wire_base.specs.declared.authenticator.Authenticator.{Authenticator}
use Rattle.wire_base.proofs.MapLaws.{lookup-put_same, put_others, taken_others}
use Rattle.wire_base.proofs.NameLaws.{IsSameness-same_name}
use Rattle.authenticators.specs.SecureChannels.{SecureChannelState, channel_by}
use Rattle.outside.specs.Machine.{Part, step_by, then_part}
use Rattle.outside.specs.declared.action.Action.{Action}
use Rattle.outside.specs.declared.action.Action.TheVariants as action
use Rattle.outside.specs.declared.action.CloseCause.TheVariants as close
use Rattle.outside.specs.declared.action.Judged.{Judged}
use Rattle.outside.specs.declared.action.StepRefused.{StepRefused}
use Rattle.outside.specs.declared.event.Event.TheVariants as event
use Rattle.logon_stubs.specs.declared.calls.AuthCall.{AuthCall}
use Rattle.logon_stubs.specs.declared.calls.ChallengeCall.{ChallengeCall}
use Rattle.netlogon_seal.specs.Channels.{open_of}
use Rattle.netlogon_seal.specs.declared.refusal.NlRefused.{NlRefused}
use Rattle.rpc_units.specs.Reading.{unit_of}
use Rattle.rpc_units.specs.Stream.{cut_stream}
use Rattle.rpc_units.specs.declared.refused.UnitRefused.{UnitRefused}
use Rattle.rpc_units.specs.declared.unit.Body.{Body}
use Rattle.rpc_units.specs.declared.unit.Body.TheVariants.{Bind, BindAck, BindNak, Auth3, Request, Response, Fault}
use Rattle.rpc_units.specs.declared.unit.Syntax.{Syntax}
use Rattle.rpc_units.specs.declared.unit.Trailer.{Trailer}
use Rattle.rpc_units.specs.declared.unit.Unit.{Unit as RpcUnit}
use Rattle.end_links.specs.Agreed.{Agreed}
use Rattle.end_links.specs.Links.{LinkState}
use Rattle.end_links.specs.Serving.{Server, ServedUnit, served_cut, served_units}
use Rattle.end_links.proofs.KeepLaws.{HoldsThen, KeepsServing, served_keeps, unit_served}
use Rattle.channel_sealing.specs.Frames.{range_of}
use Rattle.channel_sealing.specs.Names.{bind_names_of}
use Rattle.channel_sealing.specs.Parts.{is_own_trailer, part_if}
use Rattle.channel_sealing.specs.declared.parts.SealedPart.TheVariants as part
use Rattle.channel_turns.specs.Turning.{is_on}
use Rattle.controller_calls.specs.Calls.{computer_named}
use Rattle.controller_calls.specs.Granting.{answer_opened, channel_opened, secure_flags, seals_opened}
use Rattle.controller_calls.specs.Desk.{send_reply, take_pair}
use Rattle.controller_calls.specs.Opening.{put_pair_if}
use Rattle.controller_calls.specs.Seals.{belongs, is_of, link_bound, open_found, opened_bytes, stands}
use Rattle.controller_calls.specs.declared.calls.ControllerCall.{ControllerCall}
use Rattle.controller_calls.specs.declared.calls.ControllerCall.TheVariants as call
use Rattle.controller_calls.specs.declared.calls.JudgedCall.{JudgedCall}
use Rattle.controller_calls.specs.declared.line.Line.{Line}
use Rattle.controller_calls.specs.declared.seals.ChannelSeals.{ChannelSeals}
use Rattle.controller_calls.specs.declared.seals.KeptSeal.{KeptSeal}
use Rattle.controller_calls.specs.declared.seals.LinkSeal.{LinkSeal}
use Rattle.controller_calls.specs.declared.state.Computers.{Computers}
use Rattle.controller_calls.specs.declared.state.Work.{Work}
use Rattle.controller_calls.proofs.OutcomeLaws.{challenge_reply, one_channel, one_given, pair_for}
use Rattle.controller_calls.proofs.StandingLaws.{replaced_stay}
use Rattle.domain_controller.specs.Forwarding.{TrustDesk}
use Rattle.domain_controller.specs.Hearing.{hear_fresh, hear_read}
use Rattle.domain_controller.specs.SealHearing.{bind_by, bind_with, hear_bytes, hear_unsealed, open_part, open_range, open_request, opens_channel, range_to_open, seal_bound, seal_fresh, seal_hear, seal_read}
use Rattle.domain_controller.specs.SealJudging.{AddsAsJudged, AreToldInOrder, HearsCall, HearsOpened, IfServed, IsJudgedOn, IsOpened, IsNextOn, JudgesByLink, OpensFor, PassesFor, SeedsMoveByPassing, TellsBySealing, call_asked, call_heard, channel_at, desk_at, opening_asked, opening_heard, plain_bytes}
use Rattle.domain_controller.specs.SealServing.{SealDesk, SealPart, by_seal_call, by_seal_heard, draw_confounder, judge_on_link, judge_sealed, seal_desk, seal_server, serve_sealing}
use Rattle.domain_controller.specs.SealStep.{SealParts, SealStepPart, by_seal_event, seal_after_units, seal_event_and_turn, seal_put_open, seal_serve_bytes, seal_serve_on, seal_state_after, seal_step_of, seal_step_on, step_with}
use Rattle.domain_controller.specs.Sealing.{link_sealed, seal_of_link, with_seals}
use Rattle.domain_controller.specs.Sessions.{told_among, told_in}
use Rattle.domain_controller.specs.State.{State}
use Rattle.domain_controller.specs.Step.{LinkMap}
use Rattle.domain_controller.specs.TrustActions.{dial_of}
use Rattle.domain_controller.specs.TrustStep.{is_idle, link_with, next_turn, parts_of, trust_halted}
use Rattle.domain_controller.specs.declared.hearing.Heard.{Heard}
use Rattle.domain_controller.specs.declared.hearing.Heard.TheVariants as heard
use Rattle.domain_controller.specs.declared.seal_hearing.SealHeard.{SealHeard}
use Rattle.domain_controller.specs.declared.sealed.Sealing.{Sealing}
use Rattle.domain_controller.specs.declared.state.Running.{Running}
use Rattle.domain_controller.specs.declared.state.Talk.{Talk}
use Rattle.domain_controller.specs.declared.trusting.Parts.{Parts}
use Rattle.domain_controller.proofs.SealJudgeLaws.{Adds, LeftOn, MovedOn, StayedOn, ToldOn, channels_on, clear_told, sealed_told}
use Rattle.domain_controller.proofs.SealRuleLaws.{request_heard}
use Rattle.domain_controller.proofs.TrustActionLaws.{NextDials, next_dials}

-- ---- a call that a unit completes

bound_heard : (link : Option LinkSeal) (number receive : ℕ) (contexts : List (ℕ × Syntax × List Syntax)) (joiner : Option RpcUnit) (seals : ChannelSeals) →
    call_heard (bind_by link number receive contexts joiner seals).heard ≡ None
bound_heard None number receive contexts joiner seals = refl
bound_heard (Some link) number receive contexts joiner seals = refl

bind_heard : (own : Bool) (trailer : Trailer) (number receive : ℕ) (contexts : List (ℕ × Syntax × List Syntax)) (joiner : Option RpcUnit) (seals : ChannelSeals) →
    call_heard (bind_with own trailer number receive contexts joiner seals).heard ≡ None
bind_heard false trailer number receive contexts joiner seals = refl
bind_heard true trailer number receive contexts joiner seals = bound_heard (link_bound (bind_names_of trailer.value) trailer.context receive seals) number receive contexts joiner seals

fresh_heard : (b : Body) (trailer : Option Trailer) (number : ℕ) (joiner : Option RpcUnit) (seals : ChannelSeals) →
    call_heard (seal_fresh b trailer number joiner seals).heard ≡ call_heard (hear_fresh b trailer number joiner)
fresh_heard (Bind send receive group contexts) None number joiner seals = refl
fresh_heard (Bind send receive group contexts) (Some trailer) number joiner seals = bind_heard (is_own_trailer (Some trailer)) trailer number receive contexts joiner seals
fresh_heard (Request hint context opnum stub) trailer number joiner seals = refl
fresh_heard (Response hint context stub) trailer number joiner seals = refl
fresh_heard (BindAck send receive group results) trailer number joiner seals = refl
fresh_heard (BindNak reason) trailer number joiner seals = refl
fresh_heard Auth3 trailer number joiner seals = refl
fresh_heard (Fault hint context status) trailer number joiner seals = refl

unsealed_heard : (binding : Option Agreed) (unit : RpcUnit) (number : ℕ) (talk : Talk) (seals : ChannelSeals) → talk.binding ≡ binding →
    call_heard (hear_unsealed binding unit number talk.joiner seals).heard ≡ call_heard (hear_read (Ok unit) number talk)
unsealed_heard None unit number talk seals is = rw is (fresh_heard unit.body unit.trailer unit.call talk.joiner seals)
unsealed_heard (Some agreed) unit number talk seals is = rw is refl

clear_heard : (read : Result RpcUnit UnitRefused) (number : ℕ) (bytes : List ℕ) (talk : Talk) (seals : ChannelSeals) →
    call_heard (seal_read read None bytes number talk seals).heard ≡ call_heard (hear_read read number talk)
clear_heard (Err why) number bytes talk seals = refl
clear_heard (Ok unit) number bytes talk seals = unsealed_heard talk.binding unit number talk seals refl

-- on a sealed link

module _ (link : LinkSeal) (number : ℕ) (bytes : List ℕ) (talk : Talk) (seals : ChannelSeals) (c : JudgedCall) where
  abbrev Found : Option (List ℕ) → Type 0
  Found opened = call_heard (hear_bytes opened number talk) ≡ Some c

  opened_by : (answer : Result Unit NlRefused) (unit : RpcUnit) (hint context opnum : ℕ) (stub : List ℕ) (range : ℕ × ℕ) (kept : KeptSeal) →
      unit_of bytes ≡ Ok unit → unit.body ≡ Request hint context opnum stub → is_own_trailer unit.trailer ≡ true → opens_channel opnum ≡ false → range_of bytes ≡ Some range →
      stands link seals ≡ true → lookup same_name link.computer seals.kept ≡ Some kept → (open_of kept.seal bytes range.0 range.1).answer ≡ answer →
      Found (opened_bytes answer (open_of kept.seal bytes range.0 range.1).unit) → HearsOpened link number bytes talk seals c
  opened_by (Err why) unit hint context opnum stub range kept reads is own none ranged has found takes hears = absurd (let x = hears in cc)
  opened_by (Ok done) unit hint context opnum stub range kept reads is own none ranged has found takes hears = record {
    opened = record {
      unit = unit;
      hint = hint;
      context = context;
      opnum = opnum;
      stub = stub;
      reads = reads;
      is = is;
      signed = own;
      opens_none = none;
      from = range.0;
      to = range.1;
      range = ranged;
      kept = kept;
      found = found;
      stands = sym (ap (λ (k : Option KeptSeal). is_of link.opening k) found) ∙ has;
      takes = takes;
    };
    found = hears;
  }

  opened_found : (kept : Option KeptSeal) (unit : RpcUnit) (hint context opnum : ℕ) (stub : List ℕ) (range : ℕ × ℕ) →
      unit_of bytes ≡ Ok unit → unit.body ≡ Request hint context opnum stub → is_own_trailer unit.trailer ≡ true → opens_channel opnum ≡ false → range_of bytes ≡ Some range →
      stands link seals ≡ true → lookup same_name link.computer seals.kept ≡ kept → Found (open_found kept link bytes range.0 range.1 seals).bytes → HearsOpened link number bytes talk seals c
  opened_found None unit hint context opnum stub range reads is own none ranged has found hears = absurd (let x = hears in cc)
  opened_found (Some kept) unit hint context opnum stub range reads is own none ranged has found hears =
      opened_by (open_of kept.seal bytes range.0 range.1).answer unit hint context opnum stub range kept reads is own none ranged has found refl hears

  opened_range : (own : Bool) (range : Option (ℕ × ℕ)) (has opens : Bool) (unit : RpcUnit) (hint context opnum : ℕ) (stub : List ℕ) →
      unit_of bytes ≡ Ok unit → unit.body ≡ Request hint context opnum stub → is_own_trailer unit.trailer ≡ own → range_of bytes ≡ range → stands link seals ≡ has → opens_channel opnum ≡ opens →
      Found (open_range (range_to_open (part_if own range) has opens) bytes link seals).bytes → HearsOpened link number bytes talk seals c
  opened_range true (Some range) true false unit hint context opnum stub reads is own ranged has none hears =
      opened_found (lookup same_name link.computer seals.kept) unit hint context opnum stub range reads is own none ranged has refl hears
  opened_range true (Some range) true true unit hint context opnum stub reads is own ranged has none hears = absurd (let x = hears in cc)
  opened_range true (Some range) false opens unit hint context opnum stub reads is own ranged has none hears = absurd (let x = hears in cc)
  opened_range true None has opens unit hint context opnum stub reads is own ranged stood none hears = absurd (let x = hears in cc)
  opened_range false range has opens unit hint context opnum stub reads is own ranged stood none hears = absurd (let x = hears in cc)

  opened_body : (b : Body) (unit : RpcUnit) → unit_of bytes ≡ Ok unit → unit.body ≡ b → call_heard (seal_bound b unit.trailer bytes number talk link seals).heard ≡ Some c →
      HearsOpened link number bytes talk seals c
  opened_body (Request hint context opnum stub) unit reads is hears =
      opened_range (is_own_trailer unit.trailer) (range_of bytes) (stands link seals) (opens_channel opnum) unit hint context opnum stub reads is refl refl refl refl hears
  opened_body (Response hint context stub) unit reads is hears = absurd (let x = hears in cc)
  opened_body (Bind send receive group contexts) unit reads is hears = absurd (let x = hears in cc)
  opened_body (BindAck send receive group results) unit reads is hears = absurd (let x = hears in cc)
  opened_body (BindNak reason) unit reads is hears = absurd (let x = hears in cc)
  opened_body Auth3 unit reads is hears = absurd (let x = hears in cc)
  opened_body (Fault hint context status) unit reads is hears = absurd (let x = hears in cc)

  opened_read : (read : Result RpcUnit UnitRefused) → unit_of bytes ≡ read → call_heard (seal_read read (Some link) bytes number talk seals).heard ≡ Some c → HearsOpened link number bytes talk seals c
  opened_read (Err why) is hears = absurd (let x = hears in cc)
  opened_read (Ok unit) is hears = opened_body unit.body unit is refl hears

  -- a request that can be opened is opened to its plain bytes
  is_opened : (o : IsOpened link bytes seals) → (open_request o.unit.trailer o.opnum bytes link seals).bytes ≡ Some (plain_bytes o)
  is_opened o =
      ap (λ (own : Bool). (open_part (part_if own (range_of bytes)) o.opnum bytes link seals).bytes) o.signed
      ∙ ap (λ (range : Option (ℕ × ℕ)). (open_part (part_if true range) o.opnum bytes link seals).bytes) o.range
      ∙ ap (λ (has : Bool). (open_range (range_to_open (part.Range o.from o.to) has (opens_channel o.opnum)) bytes link seals).bytes)
      (ap (λ (k : Option KeptSeal). is_of link.opening k) o.found ∙ o.stands)
      ∙ ap (λ (opens : Bool). (open_range (range_to_open (part.Range o.from o.to) true opens) bytes link seals).bytes) o.opens_none
      ∙ ap (λ (k : Option KeptSeal). (open_found k link bytes o.from o.to seals).bytes) o.found
      ∙ ap (λ (answer : Result Unit NlRefused). opened_bytes answer (open_of o.kept.seal bytes o.from o.to).unit) o.takes

  hears_sealed : HearsOpened link number bytes talk seals c → call_heard (seal_hear number bytes talk (Some link) seals).heard ≡ Some c
  hears_sealed hears =
      let o : IsOpened link bytes seals = hears.opened in
      ap (λ (h : SealHeard). call_heard h.heard) (request_heard number bytes o.unit o.hint o.context o.opnum o.stub talk link seals o.reads o.is)
      ∙ ap (λ (opened : Option (List ℕ)). call_heard (hear_bytes opened number talk)) (is_opened o)
      ∙ hears.found

pub hears_from : (link : Option LinkSeal) (number : ℕ) (bytes : List ℕ) (talk : Talk) (seals : ChannelSeals) (c : JudgedCall) →
    call_heard (seal_hear number bytes talk link seals).heard ≡ Some c → HearsCall link number bytes talk seals c
hears_from None number bytes talk seals c hears = sym (clear_heard (unit_of bytes) number bytes talk seals) ∙ hears
hears_from (Some link) number bytes talk seals c hears = opened_read link number bytes talk seals c (unit_of bytes) refl hears

pub hears_so : (link : Option LinkSeal) (number : ℕ) (bytes : List ℕ) (talk : Talk) (seals : ChannelSeals) (c : JudgedCall) →
    HearsCall link number bytes talk seals c → call_heard (seal_hear number bytes talk link seals).heard ≡ Some c
hears_so None number bytes talk seals c hears = clear_heard (unit_of bytes) number bytes talk seals ∙ hears
hears_so (Some link) number bytes talk seals c hears = hears_sealed link number bytes talk seals c hears

-- ---- what is heard replaces no channel

bound_kept : (link : Option LinkSeal) (number receive : ℕ) (contexts : List (ℕ × Syntax × List Syntax)) (joiner : Option RpcUnit) (seals : ChannelSeals) →
    (bind_by link number receive contexts joiner seals).seals ≡ seals
bound_kept None number receive contexts joiner seals = refl
bound_kept (Some link) number receive contexts joiner seals = refl

bind_kept : (own : Bool) (trailer : Trailer) (number receive : ℕ) (contexts : List (ℕ × Syntax × List Syntax)) (joiner : Option RpcUnit) (seals : ChannelSeals) →
    (bind_with own trailer number receive contexts joiner seals).seals ≡ seals
bind_kept false trailer number receive contexts joiner seals = refl
bind_kept true trailer number receive contexts joiner seals = bound_kept (link_bound (bind_names_of trailer.value) trailer.context receive seals) number receive contexts joiner seals

fresh_kept : (b : Body) (trailer : Option Trailer) (number : ℕ) (joiner : Option RpcUnit) (seals : ChannelSeals) → (seal_fresh b trailer number joiner seals).seals ≡ seals
fresh_kept (Bind send receive group contexts) None number joiner seals = refl
fresh_kept (Bind send receive group contexts) (Some trailer) number joiner seals = bind_kept (is_own_trailer (Some trailer)) trailer number receive contexts joiner seals
fresh_kept (Request hint context opnum stub) trailer number joiner seals = refl
fresh_kept (Response hint context stub) trailer number joiner seals = refl
fresh_kept (BindAck send receive group results) trailer number joiner seals = refl
fresh_kept (BindNak reason) trailer number joiner seals = refl
fresh_kept Auth3 trailer number joiner seals = refl
fresh_kept (Fault hint context status) trailer number joiner seals = refl

unsealed_kept : (binding : Option Agreed) (unit : RpcUnit) (number : ℕ) (joiner : Option RpcUnit) (seals : ChannelSeals) → (hear_unsealed binding unit number joiner seals).seals ≡ seals
unsealed_kept None unit number joiner seals = fresh_kept unit.body unit.trailer unit.call joiner seals
unsealed_kept (Some agreed) unit number joiner seals = refl

clear_kept : (read : Result RpcUnit UnitRefused) (number : ℕ) (bytes : List ℕ) (talk : Talk) (seals : ChannelSeals) → (seal_read read None bytes number talk seals).seals ≡ seals
clear_kept (Err why) number bytes talk seals = refl
clear_kept (Ok unit) number bytes talk seals = unsealed_kept talk.binding unit number talk.joiner seals

module _ (link : LinkSeal) (number : ℕ) (bytes : List ℕ) (talk : Talk) (seals : ChannelSeals) where
  stands_found : (kept : Option KeptSeal) (from to : ℕ) → lookup same_name link.computer seals.kept ≡ kept → stands link (open_found kept link bytes from to seals).seals ≡ stands link seals
  stands_found None from to found = refl
  stands_found (Some kept) from to found = replaced_stay.moves link link.computer kept (open_of kept.seal bytes from to).state seals found

  stands_range : (range : Option (ℕ × ℕ)) → stands link (open_range range bytes link seals).seals ≡ stands link seals
  stands_range None = refl
  stands_range (Some range) = stands_found (lookup same_name link.computer seals.kept) range.0 range.1 refl

  stands_body : (b : Body) (trailer : Option Trailer) → stands link (seal_bound b trailer bytes number talk link seals).seals ≡ stands link seals
  stands_body (Request hint context opnum stub) trailer =
      stands_range (range_to_open (part_if (is_own_trailer trailer) (range_of bytes)) (stands link seals) (opens_channel opnum))
  stands_body (Response hint context stub) trailer = refl
  stands_body (Bind send receive group contexts) trailer = refl
  stands_body (BindAck send receive group results) trailer = refl
  stands_body (BindNak reason) trailer = refl
  stands_body Auth3 trailer = refl
  stands_body (Fault hint context status) trailer = refl

  stands_read : (read : Result RpcUnit UnitRefused) → stands link (seal_read read (Some link) bytes number talk seals).seals ≡ stands link seals
  stands_read (Err why) = refl
  stands_read (Ok unit) = stands_body unit.body unit.trailer

  named_alike : (named : Option (List ℕ)) → belongs (Some link) named (seal_hear number bytes talk (Some link) seals).seals ≡ belongs (Some link) named seals
  named_alike None = refl
  named_alike (Some computer) = ap (λ (has : Bool). same_name computer link.computer && has) (stands_read (unit_of bytes))

belongs_alike : (link : Option LinkSeal) (number : ℕ) (bytes : List ℕ) (talk : Talk) (seals : ChannelSeals) (named : Option (List ℕ)) →
    belongs link named (seal_hear number bytes talk link seals).seals ≡ belongs link named seals
belongs_alike None number bytes talk seals named = ap (λ (one : ChannelSeals). belongs None named one) (clear_kept (unit_of bytes) number bytes talk seals)
belongs_alike (Some link) number bytes talk seals named = named_alike link number bytes talk seals named

bound_alike : (bound : Option LinkSeal) (number : ℕ) (s : Sealing) → (link_sealed bound number s).seals ≡ s.seals
bound_alike None number s = refl
bound_alike (Some link) number s = refl

-- ---- what is told of a unit, by what is heard in it

-- an opening replaces the channel of its computer: it isn't refused, and is for that computer
record Replaces (c : AuthCall) (table : AccountTable) (before : Work) (computer : List ℕ) : Type 0 where
  channel : SecureChannelState
  opens : channel_opened secure_flags table c before.computers ≡ Ok channel
  its : same_name c.computer computer ≡ true

abbrev OpeningLeaves : Option AuthCall → AccountTable → Work → Work → Type 0
OpeningLeaves None table before after = after.computers.channels ≡ before.computers.channels
OpeningLeaves (Some c) table before after =
    (other : List ℕ) → (Replaces c table before other → ⊥) → lookup same_name other after.computers.channels ≡ lookup same_name other before.computers.channels

abbrev ToldBy : Option JudgedCall → Option AuthCall → Option LinkSeal → ChannelSeals → AccountTable → Work → Work → Type 0
ToldBy None opening link seals table before after = Adds before.actions after.actions [] × OpeningLeaves opening table before after
ToldBy (Some c) opening link seals table before after = ToldOn link c seals before after

-- what seals is still there
abbrev pub Seals : Option Sealing → Type 0
Seals sealing = (s : Sealing) × (sealing ≡ Some s)

abbrev PartTold : Option JudgedCall → Option AuthCall → Option LinkSeal → TrustDesk → ChannelSeals → List (List ℕ) → SealPart → Type 0
PartTold of opening link d seals left (Err why) = left ≡ []
PartTold of opening link d seals left (Ok done) = ToldBy of opening link seals d.table d.work.work done.value.0.desk.work.work × Seals done.value.0.sealing

opened_told : (opened : Result SecureChannelState ℕ) (line : Line) (c : AuthCall) (link : Option LinkSeal) (seals : ChannelSeals) (table : AccountTable) (work : Work) →
    channel_opened secure_flags table c work.computers ≡ opened → ToldBy None (Some c) link seals table work (answer_opened opened secure_flags line c (take_pair c.computer work))
opened_told (Err status) line c link seals table work is = (record { new = _; is = refl; tells = refl }, λ other none. refl)
opened_told (Ok channel) line c link seals table work is = (
  record { new = _; is = refl; tells = refl },
  λ other none. elim (cases_Bool (same_name c.computer other)) [
    | inl same ↦ absurd (none (record { channel = channel; opens = is; its = same }))
    | inr differ ↦ put_others same_name c.computer other channel work.computers.channels IsSameness-same_name differ
  ],
)

challenge_told : (knows : Bool) (d : TrustDesk) (line : Line) (c : ChallengeCall) (server : List ℕ) (link : Option LinkSeal) (seals : ChannelSeals) →
    ToldBy None None link seals d.table d.work.work (send_reply (put_pair_if knows c.computer (pair_for c server) d.work.work) line (challenge_reply server))
challenge_told true d line c server link seals = (record { new = _; is = refl; tells = refl }, refl)
challenge_told false d line c server link seals = (record { new = _; is = refl; tells = refl }, refl)

drawn_told : (left : List (List ℕ)) (c : JudgedCall) (link : LinkSeal) (line : Line) (talk : Talk) (name : List ℕ) (now : ℕ) (d : TrustDesk) (s : Sealing) (seals : ChannelSeals) →
    belongs (Some link) (computer_named c) s.seals ≡ belongs (Some link) (computer_named c) seals → PartTold (Some c) None (Some link) d seals left (draw_confounder left c link line talk name now d s)
drawn_told [] c link line talk name now d s seals same = refl
drawn_told (confounder ∷ left) c link line talk name now d s seals same =
    (sealed_told link c confounder line talk name now d s seals same, ((judge_sealed c link confounder line talk name now d s).0.1, refl))

judged_told : (link : Option LinkSeal) (c : JudgedCall) (line : Line) (talk : Talk) (name : List ℕ) (now : ℕ) (d : TrustDesk) (s : Sealing) (left : List (List ℕ)) (seals : ChannelSeals) →
    belongs link (computer_named c) s.seals ≡ belongs link (computer_named c) seals → PartTold (Some c) None link d seals left (judge_on_link link c line talk name now d s left)
judged_told None c line talk name now d s left seals same =
    (clear_told (belongs None (computer_named c) s.seals) c name now line d seals (sym same), (s, refl))
judged_told (Some link) c line talk name now d s left seals same = drawn_told left c link line talk name now d s seals same

call_told : (asks : ControllerCall) (link : Option LinkSeal) (line : Line) (talk : Talk) (name : List ℕ) (now : ℕ) (d : TrustDesk) (s : Sealing) (left : List (List ℕ)) (seals : ChannelSeals) →
    ((named : Option (List ℕ)) → belongs link named s.seals ≡ belongs link named seals) →
    PartTold (call_asked asks) (opening_asked asks) link d seals left (by_seal_call asks link line talk name now d s left)
call_told (call.Challenge c) link line talk name now d s [] seals same = refl
call_told (call.Challenge c) link line talk name now d s (server ∷ left) seals same = (challenge_told (knows_in d.table.accounts c.computer) d line c server link seals, (s, refl))
call_told (call.Authenticate c) link line talk name now d s left seals same =
    let opened = channel_opened secure_flags d.table c d.work.work.computers in
    (opened_told opened line c link seals d.table d.work.work refl, (with_seals (seals_opened opened secure_flags c s.seals) s, refl))
call_told (call.Judged c) link line talk name now d s left seals same = judged_told link c line talk name now d s left seals (same (computer_named c))

heard_told : (h : Heard) (link : Option LinkSeal) (number : ℕ) (name : List ℕ) (now : ℕ) (d : TrustDesk) (s : Sealing) (left : List (List ℕ)) (seals : ChannelSeals) →
    ((named : Option (List ℕ)) → belongs link named s.seals ≡ belongs link named seals) →
    PartTold (call_heard h) (opening_heard h) link d seals left (by_seal_heard h link number name now d s left)
heard_told (heard.Close cause) link number name now d s left seals same = ((record { new = action.Close number cause ∷ []; is = refl; tells = refl }, refl), (s, refl))
heard_told (heard.Answer bytes talk) link number name now d s left seals same = ((record { new = action.Send number bytes ∷ []; is = refl; tells = refl }, refl), (s, refl))
heard_told (heard.Waits talk) link number name now d s left seals same = ((record { new = []; is = sym (append-nil d.work.work.actions); tells = refl }, refl), (s, refl))
heard_told (heard.Asked line asks talk) link number name now d s left seals same = call_told asks link line talk name now d s left seals same

-- ---- a unit

module _ (name : List ℕ) (now number : ℕ) (bytes : List ℕ) (d : TrustDesk) (s : Sealing) (talk : Talk) (left : List (List ℕ)) where
  abbrev its_link : Option LinkSeal
  its_link = seal_of_link number s

  abbrev its_heard : Heard
  its_heard = (seal_hear number bytes talk its_link s.seals).heard

  abbrev pub its_part : SealPart
  its_part = serve_sealing (Some s) number bytes talk name now d left

  unit_told : PartTold (call_heard its_heard) (opening_heard its_heard) its_link d s.seals left its_part
  unit_told =
      let h : SealHeard = seal_hear number bytes talk its_link s.seals in
      heard_told h.heard its_link number name now d (link_sealed h.bound number (with_seals h.seals s)) left s.seals
      (λ named. ap (λ (one : ChannelSeals). belongs its_link named one) (bound_alike h.bound number (with_seals h.seals s)) ∙ belongs_alike its_link number bytes talk s.seals named)

  abbrev pub Added : List Action → Type 0
  Added after = AddsAsJudged number bytes talk d s after

  -- the call that is heard in a unit is the only one
  one_call : (one c : JudgedCall) → call_heard its_heard ≡ Some one → HearsCall its_link number bytes talk s.seals c → one ≡ c
  one_call one c is hears =
      let both : Some one ≡ Some c = sym is ∙ hears_so its_link number bytes talk s.seals c hears in
      cc

  told_as : (of : Option JudgedCall) (opening : Option AuthCall) (after : Work) → call_heard its_heard ≡ of → ToldBy of opening its_link s.seals d.table d.work.work after → Added after.actions
  told_as None opening after is told = record {
    new = told.0.new;
    is = told.0.is;
    tells = record {
      call = λ c hears. absurd (let never : None ≡ Some c = sym is ∙ hears_so its_link number bytes talk s.seals c hears in cc);
      other = λ none. told.0.tells;
    };
  }
  told_as (Some one) opening after is told = record {
    new = told.adds.new;
    is = told.adds.is;
    tells = record {
      call = λ c hears.
          (told.how, told.adds.tells, subst (λ (other : JudgedCall). IsJudgedOn its_link other d.work.work.computers s.seals told.how) (one_call one c is hears) told.is);
      other = λ none. absurd (none one (hears_from its_link number bytes talk s.seals one is));
    };
  }

  abbrev pub UnitAdds : SealPart → Type 0
  UnitAdds (Err why) = left ≡ []
  UnitAdds (Ok done) = Added done.value.0.desk.work.work.actions × Seals done.value.0.sealing

  adds_by : (part : SealPart) → PartTold (call_heard its_heard) (opening_heard its_heard) its_link d s.seals left part → UnitAdds part
  adds_by (Err why) told = told
  adds_by (Ok done) told = (told_as (call_heard its_heard) (opening_heard its_heard) done.value.0.desk.work.work refl told.0, told.1)

  pub unit_adds : UnitAdds its_part
  unit_adds = adds_by its_part unit_told

  served_if : (part : SealPart) → UnitAdds part → IfServed part left (λ after. Added after.desk.work.work.actions)
  served_if (Err why) adds = adds
  served_if (Ok done) adds = adds.0

  pub unit_served_so : IfServed ((seal_server name now number).unit bytes (seal_desk d s) talk left) left (λ after. Added after.desk.work.work.actions)
  unit_served_so = served_if its_part unit_adds

  -- ---- the channels then

  abbrev Before : Computers
  Before = d.work.work.computers

  abbrev Passing : List ℕ → Type 0
  Passing computer = PassesFor number bytes talk Before s computer

  abbrev Opening : List ℕ → Type 0
  Opening computer = OpensFor number bytes talk d s computer

  left_stays : (c : JudgedCall) (after : Work) (computer : List ℕ) → call_heard its_heard ≡ Some c → LeftOn its_link c Before s.seals after.computers.channels → (Passing computer → ⊥) →
      channel_at after.computers computer ≡ channel_at Before computer
  left_stays c after computer is (StayedOn not found) none = found computer
  left_stays c after computer is (MovedOn on moved) none =
      elim (cases_Bool (same_name on.next.computer computer)) [
        | inl same ↦ absurd (none (record { call = c; heard = hears_from its_link number bytes talk s.seals c is; on = on; its = same }))
        | inr differ ↦
            ap (λ (channels : List (List ℕ × SecureChannelState)). lookup same_name computer channels) moved
            ∙ put_others same_name on.next.computer computer (channel_by true on.next.channel on.next.given) (take_out same_name on.next.computer Before.channels) IsSameness-same_name differ
            ∙ taken_others same_name on.next.computer computer Before.channels IsSameness-same_name differ
      ]

  stays_after : (of : Option JudgedCall) (opening : Option AuthCall) (after : Work) (computer : List ℕ) → call_heard its_heard ≡ of → opening_heard its_heard ≡ opening →
      ToldBy of opening its_link s.seals d.table d.work.work after → (Passing computer → ⊥) → (Opening computer → ⊥) → channel_at after.computers computer ≡ channel_at Before computer
  stays_after None None after computer is opens told none other = ap (λ (channels : List (List ℕ × SecureChannelState)). lookup same_name computer channels) told.1
  stays_after None (Some c) after computer is opens told none other =
      told.1 computer (λ replaces. other (record { call = c; heard = opens; channel = replaces.channel; opens = replaces.opens; its = replaces.its }))
  stays_after (Some c) opening after computer is opens told none other = left_stays c after computer is told.left none

  stays_by : (part : SealPart) (computer : List ℕ) → PartTold (call_heard its_heard) (opening_heard its_heard) its_link d s.seals left part → (Passing computer → ⊥) → (Opening computer → ⊥) →
      IfServed part left (λ after. channel_at after.desk.work.work.computers computer ≡ channel_at Before computer)
  stays_by (Err why) computer told none other = told
  stays_by (Ok done) computer told none other = stays_after (call_heard its_heard) (opening_heard its_heard) done.value.0.desk.work.work computer refl refl told.0 none other

  pub channel_stays : (computer : List ℕ) → (Passing computer → ⊥) → (Opening computer → ⊥) →
      IfServed ((seal_server name now number).unit bytes (seal_desk d s) talk left) left (λ after. channel_at after.desk.work.work.computers computer ≡ channel_at Before computer)
  channel_stays computer none other = stays_by its_part computer unit_told none other

  -- ---- the channel of a call that passes

  abbrev MovedFor : (c : JudgedCall) → IsNextOn its_link c Before s.seals → Work → Type 0
  MovedFor c on after = channel_at after.computers on.next.computer ≡ Some (channel_by true on.next.channel on.next.given)

  left_moves : (c : JudgedCall) (on : IsNextOn its_link c Before s.seals) (after : Work) → LeftOn its_link c Before s.seals after.computers.channels → MovedFor c on after
  left_moves c on after (StayedOn not found) = absurd (not on)
  left_moves c on after (MovedOn other moved) =
      let channel : other.next.channel ≡ on.next.channel =
      one_channel other.next.computer on.next.computer other.next.channel on.next.channel Before (sym other.next.named ∙ on.next.named) other.next.stands on.next.stands in
      let computer : other.next.computer ≡ on.next.computer = let both : Some other.next.computer ≡ Some on.next.computer = sym other.next.named ∙ on.next.named in cc in
      let given : other.next.given ≡ on.next.given = one_given other.next.given on.next.given (sym other.next.there ∙ on.next.there) in
      ap (λ (channels : List (List ℕ × SecureChannelState)). lookup same_name on.next.computer channels) moved
      ∙ ap (λ (n : List ℕ). lookup same_name n (channels_on other.next)) (sym computer)
      ∙ lookup-put_same same_name other.next.computer (channel_by true other.next.channel other.next.given) (take_out same_name other.next.computer Before.channels)
      (IsSameness-same_name.reflexive other.next.computer)
      ∙ ap (λ (ch : SecureChannelState). Some (channel_by true ch other.next.given)) channel
      ∙ ap (λ (g : Authenticator). Some (channel_by true on.next.channel g)) given

  moves_as : (of : Option JudgedCall) (opening : Option AuthCall) (after : Work) (c : JudgedCall) (on : IsNextOn its_link c Before s.seals) → call_heard its_heard ≡ of →
      HearsCall its_link number bytes talk s.seals c → ToldBy of opening its_link s.seals d.table d.work.work after → MovedFor c on after
  moves_as None opening after c on is hears told = absurd (let never : None ≡ Some c = sym is ∙ hears_so its_link number bytes talk s.seals c hears in cc)
  moves_as (Some one) opening after c on is hears told =
      left_moves c on after (subst (λ (other : JudgedCall). LeftOn its_link other Before s.seals after.computers.channels) (one_call one c is hears) told.left)

  moves_by : (part : SealPart) (c : JudgedCall) (on : IsNextOn its_link c Before s.seals) → HearsCall its_link number bytes talk s.seals c →
      PartTold (call_heard its_heard) (opening_heard its_heard) its_link d s.seals left part → IfServed part left (λ after. MovedFor c on after.desk.work.work)
  moves_by (Err why) c on hears told = told
  moves_by (Ok done) c on hears told = moves_as (call_heard its_heard) (opening_heard its_heard) done.value.0.desk.work.work c on refl hears told.0

  pub channel_moves : (c : JudgedCall) → HearsCall its_link number bytes talk s.seals c → (on : IsNextOn its_link c Before s.seals) →
      IfServed ((seal_server name now number).unit bytes (seal_desk d s) talk left) left (λ after. MovedFor c on after.desk.work.work)
  channel_moves c hears on = moves_by its_part c on hears unit_told

pub seeds_move : SeedsMoveByPassing
seeds_move = record {
  moves = λ name now number bytes d s talk left c hears on. channel_moves name now number bytes d s talk left c hears on;
  stays = λ name now number bytes d s talk left computer none other. channel_stays name now number bytes d s talk left computer none other;
}

-- ---- the units of a link

one_more : (number : ℕ) (units : List (ServedUnit SealDesk Talk)) (told one : List Judged) (last : ServedUnit SealDesk Talk) → AreToldInOrder number units told →
    TellsBySealing last.work.sealing number last.bytes last.talk last.work.desk.work.work.computers one → AreToldInOrder number (units ++ last ∷ []) (told ++ one)
one_more number [] told one last none tells = (one, [], ap (λ (t : List Judged). t ++ one) none ∙ sym (append-nil one), tells, refl)
one_more number (unit ∷ units) told one last are tells =
    (are.0, are.1 ++ one, ap (λ (t : List Judged). t ++ one) are.2 ∙ append_assoc are.0 are.1 one, are.3, one_more number units are.1 one last are.4 tells)

abbrev Open : (number : ℕ) → List (ServedUnit SealDesk Talk) → List (List ℕ) → SealDesk → Talk → List (List ℕ) → Type 0
Open number done more work talk left = AreToldInOrder number done (told_among work.desk.work.work.actions) × Seals work.sealing

abbrev Shut : (number : ℕ) → List (ServedUnit SealDesk Talk) → SealDesk → List (List ℕ) → Type 0
Shut number done work left = AreToldInOrder number done (told_among work.desk.work.work.actions)

module _ (name : List ℕ) (now number : ℕ) where
  abbrev Then : List (ServedUnit SealDesk Talk) → List (List ℕ) → SealPart → Type 0
  Then done more part = HoldsThen (Open number) (Shut number) done more part

  then_said : (done : List (ServedUnit SealDesk Talk)) (more : List (List ℕ)) (work : SealDesk) (said : Option Talk) (left : List (List ℕ)) →
      AreToldInOrder number done (told_among work.desk.work.work.actions) → Seals work.sealing → Then done more (Ok (record { value = (work, said); left = left }))
  then_said done more work None left are seals = are
  then_said done more work (Some talk) left are seals = (are, seals)

  abbrev its_server : Server SealDesk Talk
  its_server = seal_server name now number

  part_goes : (part : SealPart) (done : List (ServedUnit SealDesk Talk)) (bytes : List ℕ) (more : List (List ℕ)) (d : TrustDesk) (s : Sealing) (talk : Talk) (left : List (List ℕ)) →
      AreToldInOrder number done (told_among d.work.work.actions) → UnitAdds name now number bytes d s talk left part → Then (done ++ unit_served its_server bytes (seal_desk d s) talk left ∷ []) more part
  part_goes (Err why) done bytes more d s talk left are adds = tt
  part_goes (Ok part) done bytes more d s talk left are adds =
      let new : List Action = adds.0.new in
      let told : told_among part.value.0.desk.work.work.actions ≡ told_among d.work.work.actions ++ told_among new =
      ap told_among adds.0.is ∙ flat_map-append told_in d.work.work.actions new in
      let last : ServedUnit SealDesk Talk = unit_served its_server bytes (seal_desk d s) talk left in
      then_said (done ++ last ∷ []) more part.value.0 part.value.1 part.left
      (subst (λ (all : List Judged). AreToldInOrder number (done ++ last ∷ []) all) (sym told) (one_more number done (told_among d.work.work.actions) (told_among new) last are adds.0.tells))
      adds.1

  unit_goes : (done : List (ServedUnit SealDesk Talk)) (bytes : List ℕ) (more : List (List ℕ)) (work : SealDesk) (talk : Talk) (left : List (List ℕ)) → Open number done (bytes ∷ more) work talk left →
      Then (done ++ unit_served its_server bytes work talk left ∷ []) more (its_server.unit bytes work talk left)
  unit_goes done bytes more work talk left (are, seals) =
      let same : work ≡ seal_desk work.desk seals.0 = ap (λ (o : Option Sealing). record { desk = work.desk; sealing = o }) seals.1 in
      subst (λ (w : SealDesk). Then (done ++ unit_served its_server bytes w talk left ∷ []) more (its_server.unit bytes w talk left)) (sym same)
      (part_goes (serve_sealing (Some seals.0) number bytes talk name now work.desk left) done bytes more work.desk seals.0 talk left are
      (unit_adds name now number bytes work.desk seals.0 talk left))

  serving_keeps : KeepsServing its_server (Open number) (Shut number)
  serving_keeps = record {
    unit = λ done bytes more work talk left holds. unit_goes done bytes more work talk left holds;
    refusal = λ done why work talk left holds.
        subst (λ (all : List Judged). AreToldInOrder number done all)
        (sym (flat_map-append told_in work.desk.work.work.actions (action.Close number close.BadUnit ∷ []) ∙ append-nil (told_among work.desk.work.work.actions))) holds.0;
  }

-- ---- the step

abbrev StepTold : (number : ℕ) → List (ServedUnit SealDesk Talk) → SealStepPart → Type 0
StepTold number units (Err why) = Unit {0}
StepTold number units (Ok part) = AreToldInOrder number units (told_among part.value.rest.parts.work.work.actions)

said_told : (said : Option Talk) (number : ℕ) (units : List (ServedUnit SealDesk Talk)) (work : SealDesk) (rest : List ℕ) (left : List (List ℕ)) (others : LinkMap) (parts : Parts) →
    HoldsThen (Open number) (Shut number) units [] (Ok (record { value = (work, said); left = left })) →
    AreToldInOrder number units (told_among (seal_put_open (link_with rest said) number work others parts).rest.parts.work.work.actions)
said_told None number units work rest left others parts holds = holds
said_told (Some talk) number units work rest left others parts holds = holds.0

after_told : (part : SealPart) (number : ℕ) (units : List (ServedUnit SealDesk Talk)) (rest : List ℕ) (others : LinkMap) (parts : Parts) →
    HoldsThen (Open number) (Shut number) units [] part → StepTold number units (seal_after_units part rest number others parts)
after_told (Err why) number units rest others parts holds = tt
after_told (Ok part) number units rest others parts holds = said_told part.value.1 number units part.value.0 rest part.left others parts holds

no_dial_tells : (dial : Option (List ℕ)) → told_among (dial_of dial) ≡ []
no_dial_tells None = refl
no_dial_tells (Some peer) = refl

abbrev with_next : AccountTable → Option Sealing → Result (Part Parts) StepRefused → SealStepPart
with_next table sealing next =
    then_part next (λ later last. Ok (record { value = record { rest = record { table = table; parts = later }; sealing = sealing }; left = last }))

next_told : (next : Result (Part Parts) StepRefused) (number : ℕ) (units : List (ServedUnit SealDesk Talk)) (table : AccountTable) (sealing : Option Sealing) (before : List Action) →
    NextDials before next → AreToldInOrder number units (told_among before) → StepTold number units (with_next table sealing next)
next_told (Err why) number units table sealing before dials are = tt
next_told (Ok part) number units table sealing before dials are =
    let told : told_among part.value.work.work.actions ≡ told_among before =
    ap told_among dials.1 ∙ flat_map-append told_in before (dial_of dials.0) ∙ ap (λ (t : List Judged). told_among before ++ t) (no_dial_tells dials.0) ∙ append-nil (told_among before) in
    subst (λ (all : List Judged). AreToldInOrder number units all) (sym told) are

turn_told : (part : SealStepPart) (number : ℕ) (units : List (ServedUnit SealDesk Talk)) (trusts : List Trust) (now : ℕ) → StepTold number units part →
    StepTold number units (then_part part (λ after rest. with_next after.rest.table after.sealing (next_turn trusts now after.rest.parts rest)))
turn_told (Err why) number units trusts now told = tt
turn_told (Ok part) number units trusts now told =
    next_told (next_turn trusts now part.value.rest.parts part.left) number units part.value.rest.table part.value.sealing part.value.rest.parts.work.work.actions
    (next_dials (is_idle part.value.rest.parts.dialling) trusts now part.value.rest.parts part.left) told

taken_told : (part : SealStepPart) (number : ℕ) (units : List (ServedUnit SealDesk Talk)) (s : State) (left : List (List ℕ)) (actions : List Action) → StepTold number units part →
    (step_by (λ (after : SealParts). after.rest.parts.work.work.actions) (λ after. seal_state_after s after) (trust_halted s) left part).answer ≡ Ok actions →
    AreToldInOrder number units (told_among actions)
taken_told (Err why) number units s left actions told is = absurd (let x = is in cc)
taken_told (Ok part) number units s left actions told is =
    let same : part.value.rest.parts.work.work.actions ≡ actions = cc in
    subst (λ (all : List Action). AreToldInOrder number units (told_among all)) same told

module _ (s : State) (running : Running) (sealing : Sealing) (number : ℕ) (link : LinkState Talk) (piece : List ℕ) (now : ℕ) (left : List (List ℕ)) where
  abbrev its_units : List (ServedUnit SealDesk Talk)
  its_units = served_units (seal_server s.name now number) (cut_stream (link.rest ++ piece)).units (desk_at s running sealing) link.talk left

  abbrev its_parts : Parts
  its_parts = parts_of running s.trusting

  abbrev its_others : LinkMap
  its_others = take_out same_number number running.links

  on_told : StepTold number its_units (seal_serve_on (Some link) number piece s.name now its_others s.table its_parts sealing left)
  on_told =
      let cut = cut_stream (link.rest ++ piece) in
      after_told (served_cut (seal_server s.name now number) cut (desk_at s running sealing) link.talk left) number its_units cut.rest its_others its_parts
      (served_keeps (seal_server s.name now number) (Open number) (Shut number) (serving_keeps s.name now number) cut.units cut.refused [] (desk_at s running sealing) link.talk left (refl, (sealing, refl)))

  bytes_told : is_on number s.trusting.dialling ≡ false → lookup same_number number running.links ≡ Some link →
      StepTold number its_units (by_seal_event (event.Bytes number piece) s.name now s.table its_parts sealing left)
  bytes_told off there =
      subst (λ (on : Bool). StepTold number its_units (seal_serve_bytes on number piece s.name now s.table its_parts sealing left)) (sym off)
      (subst (λ (found : Option (LinkState Talk)). StepTold number its_units (seal_serve_on found number piece s.name now its_others s.table its_parts sealing left)) (sym there) on_told)

  pub step_told : (actions : List Action) → s.running ≡ Some running → s.trusting.sealing ≡ Some sealing → is_on number s.trusting.dialling ≡ false → lookup same_number number running.links ≡ Some link →
      (seal_step_of s (event.Bytes number piece) now left).answer ≡ Ok actions → AreToldInOrder number its_units (told_among actions)
  step_told actions runs seals off there is =
      taken_told (seal_event_and_turn s.table.trusts (event.Bytes number piece) s.name now s.table its_parts sealing left) number its_units s left actions
      (turn_told (by_seal_event (event.Bytes number piece) s.name now s.table its_parts sealing left) number its_units s.table.trusts now (bytes_told off there))
      (sym (ap (λ (o : Option Sealing). (step_with o s (event.Bytes number piece) now left).answer) seals
      ∙ ap (λ (r : Option Running). (seal_step_on r sealing s (event.Bytes number piece) now left).answer) runs)
      ∙ is)

pub judges_by_link : JudgesByLink
judges_by_link = record {
  unit = λ name now number bytes d s talk left. unit_served_so name now number bytes d s talk left;
  step = λ s running sealing number link piece now left actions runs seals off there is. step_told s running sealing number link piece now left actions runs seals off there is;
}
