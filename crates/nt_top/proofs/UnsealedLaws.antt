-- A controller that can seal steps as one that can't, while nobody asks. It serves `what_nobody_seals_stays_plain`.
use Rattle.std.proofs.Common.{ℕ, zero, suc, ◌≡◌, ◌<◌, ◌+◌, ◌%◌, ◌^◌, ◌*◌, ◌==◌, min, max, Bool, true, false, List, [], ◌∷◌, ◌++◌, ◌||◌, bit_and, bit_or, Option, Some, None, Result, Ok, Err, refl, sym, ap, subst, ◌∙◌, arith}
use Rattle.std.specs.Prelude.{slice_get}
use Rattle.std.specs.List.{list_any}
use Rattle.std.specs.Int.{bit_at}
use Rattle.std.proofs.lemmas.Bool.{eqb-false, eqb-true}
use Rattle.std.proofs.lemmas.Nat.Bits.{and_pow, bit_at-lt, bit_at-pow_other, bit_at-pow_same, bit_at_and, bit_at_or, same_from_bits}
use Rattle.ntlm_flags.specs.Flags.{has_flag}
use Rattle.channel_keys.specs.Flags.{granted_of, rc4_flag, secure_rpc_flag, supported_flags}
use Rattle.account_table.specs.AccountTable.{AccountTable}
use Rattle.account_table.specs.declared.account.Account.{Account}
use Rattle.account_table.specs.declared.account.Trust.{Trust}
use Rattle.authenticators.specs.SecureChannels.{SecureChannelState, key_of_channel}
use Rattle.outside.specs.Machine.{Part, Stepped, step_by, then_part}
use Rattle.outside.specs.declared.action.StepRefused.{StepRefused}
use Rattle.outside.specs.declared.event.Event.{Event}
use Rattle.outside.specs.declared.event.Event.TheVariants as event
use Rattle.rpc_units.specs.declared.refused.UnitRefused.{UnitRefused}
use Rattle.rpc_units.specs.declared.unit.Body.{Body}
use Rattle.rpc_units.specs.declared.unit.Body.TheVariants.{Auth3, Bind, BindAck, BindNak, Fault, Request, Response}
use Rattle.rpc_units.specs.declared.unit.Syntax.{Syntax}
use Rattle.rpc_units.specs.declared.unit.Trailer.{Trailer}
use Rattle.rpc_units.specs.declared.unit.Unit.{Unit as RpcUnit}
use Rattle.rpc_units.specs.Reading.{unit_of}
use Rattle.rpc_units.specs.Stream.{cut_stream}
use Rattle.logon_stubs.specs.declared.calls.AuthCall.{AuthCall}
use Rattle.logon_stubs.specs.declared.calls.ChallengeCall.{ChallengeCall}
use Rattle.logon_stubs.specs.declared.info.Verdict.{Verdict}
use Rattle.wire_base.specs.Maps.{lookup, same_number, take_out}
use Rattle.wire_base.specs.Names.{same_name}
use Rattle.end_links.specs.Agreed.{Agreed}
use Rattle.end_links.specs.Links.{LinkState}
use Rattle.end_links.specs.Serving.{ServedPart, served_by, served_cut, then_open, then_talk}
use Rattle.channel_sealing.specs.Names.{Texts, bind_names_of}
use Rattle.channel_sealing.specs.Parts.{is_own_trailer}
use Rattle.channel_client.specs.State.{Requester}
use Rattle.channel_turns.specs.Turning.{Turned, is_on, is_waiting, link_answers, link_closes, link_hears, no_dial}
use Rattle.channel_turns.specs.declared.state.Turning.{Turning}
use Rattle.controller_calls.specs.Calls.{computer_named}
use Rattle.controller_calls.specs.Desk.{Desk, desk, take_pair}
use Rattle.controller_calls.specs.Granting.{answer_granting, answer_opened, channel_opened, opened_for, opened_offer, opened_with, secure_flags, seals_opened}
use Rattle.controller_calls.specs.Opening.{account_for, answer_authenticate}
use Rattle.controller_calls.specs.Seals.{after_opening, belongs, is_secure, link_bound}
use Rattle.controller_calls.specs.declared.calls.ControllerCall.{ControllerCall}
use Rattle.controller_calls.specs.declared.calls.ControllerCall.TheVariants as call
use Rattle.controller_calls.specs.declared.calls.JudgedCall.{JudgedCall}
use Rattle.controller_calls.specs.declared.line.Line.{Line}
use Rattle.controller_calls.specs.declared.seals.ChannelSeals.{ChannelSeals}
use Rattle.controller_calls.specs.declared.state.ChallengePair.{ChallengePair}
use Rattle.controller_calls.specs.declared.state.Work.{Work}
use Rattle.controller_calls.proofs.SealLaws.{grants_as_opened}
use Rattle.domain_controller.specs.Forwarding.{TrustDesk, base_desk, beside, by_trust_call, by_trust_heard, trust_desk, trust_server, with_queues}
use Rattle.domain_controller.specs.Hearing.{hear, hear_bound, hear_fresh, hear_on, hear_read, hear_sealed_bind}
use Rattle.domain_controller.specs.Laws.{call_in, calls_heard, calls_if, calls_on, calls_then, talk_after, trust_calls_of}
use Rattle.domain_controller.specs.Machine.{draw_challenge}
use Rattle.domain_controller.specs.SealHearing.{bind_by, bind_with, hear_unsealed, only_heard, seal_fresh, seal_hear, seal_read}
use Rattle.domain_controller.specs.SealServing.{SealPart, after_heard, answer_owned, beside_sealing, by_seal_call, by_seal_heard, goes_on_sealing, seal_server, serve_sealing}
use Rattle.domain_controller.specs.Sealing.{with_seals}
use Rattle.domain_controller.specs.SealStep.{SealParts, SealStepPart, after_answered, answer_ended, beside_parts, by_seal_event, end_verdict, seal_after_units, seal_answer_dial, seal_close_by, seal_event_and_turn, seal_fail_dial, seal_on_turn, seal_open_number, seal_part, seal_serve_bytes, seal_serve_on, seal_state_after, seal_step_of, seal_step_on, seal_turn_at, sealing_with, step_with, without_sealing}
use Rattle.domain_controller.specs.State.{State}
use Rattle.domain_controller.specs.Step.{LinkMap}
use Rattle.domain_controller.specs.TrustStep.{TrustPart, TrustParts, after_turned, after_units, answer_dial, by_trust_event, close_by, event_and_turn, fail_dial, link_with, next_turn, on_turn, parts_of, put_open, serve_bytes, serve_on, trust_halted, trust_part, trust_state_after, trust_step_of, trust_step_on, trust_step_part, turn_at, turning_of, without_link}
use Rattle.domain_controller.specs.declared.hearing.Heard.{Heard}
use Rattle.domain_controller.specs.declared.hearing.Heard.TheVariants as heard
use Rattle.domain_controller.specs.declared.seal_hearing.SealHeard.{SealHeard}
use Rattle.domain_controller.specs.declared.sealed.Sealing.{Sealing}
use Rattle.domain_controller.specs.declared.state.Running.{Running}
use Rattle.domain_controller.specs.declared.state.Talk.{Talk}
use Rattle.domain_controller.specs.declared.trusting.Parts.{Parts}
use Rattle.domain_controller.specs.declared.trusting.Queues.{Queues}
use Rattle.nt_top.specs.Unsealed.{SealsNone, SealsNothing, StepsStayPlain, asks_in, asks_to_seal, calls_at, plain_step}

-- ---- what is granted to one that doesn't offer secure RPC, which is the flag of bit 30

abbrev flag : ℕ
flag = 2 ^ 30

-- a bit times the flag isn't the flag
bit_off : (bit : ℕ) → bit < 2 → (bit * flag == flag) ≡ false → bit ≡ 0
bit_off zero small off = refl
bit_off (suc zero) small off = absurd cc
bit_off (suc (suc bit)) small off = absurd (omega (arith, small))

no_bit : (flags : ℕ) → has_flag flags secure_rpc_flag ≡ false → bit_at flags 30 ≡ 0
no_bit flags off = bit_off (bit_at flags 30) (bit_at-lt flags 30) (sym (ap (λ (n : ℕ). n == flag) (and_pow flags 30)) ∙ off)

none_of : (one other : ℕ) → min 0 one ≡ min 0 other
none_of one other = omega arith

-- on both sides there is no bit at the flag's place, and at others the flag has none
bits_by : (is_flag : Bool) (flags i : ℕ) → (i == 30) ≡ is_flag → bit_at flags 30 ≡ 0 →
    min (bit_at flags i) (max (bit_at supported_flags i) (bit_at flag i)) ≡ min (bit_at flags i) (bit_at supported_flags i)
bits_by true flags i is none =
    let none_there : bit_at flags i ≡ 0 = ap (bit_at flags) (eqb-true i 30 is) ∙ none in
    rw none_there (none_of (max (bit_at supported_flags i) (bit_at flag i)) (bit_at supported_flags i))
bits_by false flags i other none =
    let apart : bit_at flag i ≡ 0 = bit_at-pow_other 30 i (eqb-false i 30 other) in
    rw apart (ap (λ (b : ℕ). min (bit_at flags i) b) (omega arith))

same_granted : (flags : ℕ) → has_flag flags secure_rpc_flag ≡ false → granted_of secure_flags flags ≡ granted_of supported_flags flags
same_granted flags off = same_from_bits (bit_and flags (bit_or supported_flags flag)) (bit_and flags supported_flags) (λ i.
    bit_at_and flags (bit_or supported_flags flag) i
    ∙ ap (λ (b : ℕ). min (bit_at flags i) b) (bit_at_or supported_flags flag i)
    ∙ bits_by (i == 30) flags i refl (no_bit flags off)
    ∙ sym (bit_at_and flags supported_flags i))

-- ---- an opening

module _ (c : AuthCall) (same : granted_of secure_flags c.flags ≡ granted_of supported_flags c.flags) where
  found_same : (found : Result SecureChannelState ℕ) (line : Line) (work : Work) → answer_opened found secure_flags line c work ≡ answer_opened found supported_flags line c work
  found_same (Err status) line work = rw same refl
  found_same (Ok channel) line work = rw same refl

  pair_same : (pair : Option ChallengePair) (hash : List ℕ) → opened_with pair secure_flags hash c ≡ opened_with pair supported_flags hash c
  pair_same None hash = refl
  pair_same (Some pair) hash = rw same refl

  offer_same : (offers : Bool) (pair : Option ChallengePair) (hash : List ℕ) → opened_offer offers pair secure_flags hash c ≡ opened_offer offers pair supported_flags hash c
  offer_same false pair hash = refl
  offer_same true pair hash = pair_same pair hash

  opened_same : (account : Option Account) (pair : Option ChallengePair) → opened_for account pair secure_flags c ≡ opened_for account pair supported_flags c
  opened_same None pair = refl
  opened_same (Some account) pair = offer_same (has_flag c.flags rc4_flag) pair account.hash

  answers_same : (table : AccountTable) (line : Line) (work : Work) → answer_granting secure_flags table line c work ≡ answer_authenticate table line c work
  answers_same table line work =
      let found = opened_same (account_for table c) (lookup same_name c.computer work.computers.pending) in
      ap (λ (f : Result SecureChannelState ℕ). answer_opened f secure_flags line c (take_pair c.computer work)) found
      ∙ found_same (opened_for (account_for table c) (lookup same_name c.computer work.computers.pending) supported_flags c) line (take_pair c.computer work)
      ∙ grants_as_opened.plain table line c work

-- ---- what is kept to seal where nothing is sealed

abbrev bare : ℕ → Sealing
bare openings = record { seals = record { openings = openings; kept = [] }; links = []; asked = [] }

none_is : (s : Sealing) → SealsNone s → s ≡ bare s.seals.openings
none_is s none =
    ap (λ kept. record { seals = record { openings = s.seals.openings; kept = kept }; links = s.links; asked = s.asked }) none.channels
    ∙ ap (λ links. record { seals = record { openings = s.seals.openings; kept = [] }; links = links; asked = s.asked }) none.links
    ∙ ap (λ asked. record { seals = record { openings = s.seals.openings; kept = [] }; links = []; asked = asked }) none.asked

bare_none : (openings : ℕ) → SealsNone (bare openings)
bare_none openings = record { channels = refl; links = refl; asked = refl }

abbrev no_kept : ℕ → ChannelSeals
no_kept openings = record { openings = openings; kept = [] }

-- a controller that offers its plain flags alone never grants secure RPC
never_secure : (flags : ℕ) → is_secure (granted_of supported_flags flags) ≡ false
never_secure flags =
    let none : bit_at (bit_and flags supported_flags) 30 ≡ 0 = bit_at_and flags supported_flags 30 ∙ omega arith in
    ap (λ (n : ℕ). n == flag) (and_pow (bit_and flags supported_flags) 30 ∙ ap (λ (b : ℕ). b * flag) none)

-- an opening that doesn't offer secure RPC leaves nothing kept to seal
opened_bare : (found : Result SecureChannelState ℕ) (c : AuthCall) (n : ℕ) → has_flag c.flags secure_rpc_flag ≡ false →
    (openings : ℕ) × (seals_opened found secure_flags c (no_kept n) ≡ no_kept openings)
opened_bare (Err status) c n off = (n, refl)
opened_bare (Ok channel) c n off =
    let insecure : is_secure (granted_of secure_flags c.flags) ≡ false = ap is_secure (same_granted c.flags off) ∙ never_secure c.flags in
    ((n + 1) % 2 ^ 64, ap (λ (seals : Bool). after_opening seals c.computer (key_of_channel channel) (no_kept n)) insecure)

-- ---- what is heard

-- a bind with a trailer is refused, whoever's it is
bind_same : (names : Option Texts) (context call receive : ℕ) (contexts : List (ℕ × Syntax × List Syntax)) (joiner : Option RpcUnit) (n : ℕ) →
    bind_by (link_bound names context receive (no_kept n)) call receive contexts joiner (no_kept n) ≡ only_heard (hear_sealed_bind call joiner) (no_kept n)
bind_same None context call receive contexts joiner n = refl
bind_same (Some names) context call receive contexts joiner n = refl

trailer_same : (is_own : Bool) (trailer : Trailer) (call receive : ℕ) (contexts : List (ℕ × Syntax × List Syntax)) (joiner : Option RpcUnit) (n : ℕ) →
    bind_with is_own trailer call receive contexts joiner (no_kept n) ≡ only_heard (hear_sealed_bind call joiner) (no_kept n)
trailer_same false trailer call receive contexts joiner n = refl
trailer_same true trailer call receive contexts joiner n = bind_same (bind_names_of trailer.value) trailer.context call receive contexts joiner n

fresh_same : (body : Body) (trailer : Option Trailer) (call : ℕ) (joiner : Option RpcUnit) (n : ℕ) →
    seal_fresh body trailer call joiner (no_kept n) ≡ only_heard (hear_fresh body trailer call joiner) (no_kept n)
fresh_same (Bind send receive group contexts) None call joiner n = refl
fresh_same (Bind send receive group contexts) (Some trailer) call joiner n = trailer_same (is_own_trailer (Some trailer)) trailer call receive contexts joiner n
fresh_same (Request hint context opnum stub) trailer call joiner n = refl
fresh_same (Response hint context stub) trailer call joiner n = refl
fresh_same (BindAck send receive group results) trailer call joiner n = refl
fresh_same (BindNak reason) trailer call joiner n = refl
fresh_same Auth3 trailer call joiner n = refl
fresh_same (Fault hint context status) trailer call joiner n = refl

on_same : (binding : Option Agreed) (unit : RpcUnit) (number : ℕ) (joiner : Option RpcUnit) (n : ℕ) →
    hear_unsealed binding unit number joiner (no_kept n) ≡ only_heard (hear_on binding unit number joiner) (no_kept n)
on_same None unit number joiner n = fresh_same unit.body unit.trailer unit.call joiner n
on_same (Some agreed) unit number joiner n = refl

read_same : (read : Result RpcUnit UnitRefused) (bytes : List ℕ) (number : ℕ) (talk : Talk) (n : ℕ) →
    seal_read read None bytes number talk (no_kept n) ≡ only_heard (hear_read read number talk) (no_kept n)
read_same (Err why) bytes number talk n = refl
read_same (Ok unit) bytes number talk n = on_same talk.binding unit number talk.joiner n

heard_same : (number : ℕ) (bytes : List ℕ) (talk : Talk) (n : ℕ) → seal_hear number bytes talk None (no_kept n) ≡ only_heard (hear number bytes talk) (no_kept n)
heard_same number bytes talk n = read_same (unit_of bytes) bytes number talk n

-- ---- a unit

abbrev AskNone : List ControllerCall → Type 0
AskNone calls = list_any asks_to_seal calls ≡ false

-- a part as where nothing can be sealed, and what is kept beside it
abbrev IsBare : SealPart → ServedPart TrustDesk Talk → Type 0
IsBare part plain = (openings : ℕ) × (part ≡ beside_sealing (Some (bare openings)) plain)

belongs_none : (named : Option (List ℕ)) (n : ℕ) → belongs None named (no_kept n) ≡ true
belongs_none None n = refl
belongs_none (Some computer) n = refl

call_bare : (c : ControllerCall) (line : Line) (talk : Talk) (name : List ℕ) (now : ℕ) (d : TrustDesk) (n : ℕ) (left : List (List ℕ)) → asks_to_seal c ≡ false →
    IsBare (by_seal_call c None line talk name now d (bare n) left) (by_trust_call c line talk name now d left)
call_bare (call.Challenge c) line talk name now d n left none = (n, refl)
call_bare (call.Authenticate c) line talk name now d n left none =
    let opened = opened_bare (channel_opened secure_flags d.table c d.work.work.computers) c n none in
    let same = answers_same c (same_granted c.flags none) d.table line d.work.work in (
      opened.0,
      ap (λ (seals : ChannelSeals). goes_on_sealing
          (with_queues d.work.queues (desk d.table (answer_granting secure_flags d.table line c d.work.work))) (with_seals seals (bare n)) (Some talk) left) opened.1
          ∙ ap (λ (w : Work). goes_on_sealing (with_queues d.work.queues (desk d.table w)) (bare opened.0) (Some talk) left) same,
    )
call_bare (call.Judged c) line talk name now d n left none =
    (n, ap (λ (own : Bool). goes_on_sealing (answer_owned own c name now line d) (bare n) (Some talk) left) (belongs_none (computer_named c) n))

or_first : (one other : Bool) → (one || other) ≡ false → one ≡ false
or_first false other is = refl
or_first true other is = absurd cc

heard_bare : (h : Heard) (number : ℕ) (name : List ℕ) (now : ℕ) (d : TrustDesk) (n : ℕ) (left : List (List ℕ)) → AskNone (call_in h) →
    IsBare (by_seal_heard h None number name now d (bare n) left) (by_trust_heard h number name now d left)
heard_bare (heard.Close cause) number name now d n left none = (n, refl)
heard_bare (heard.Answer bytes talk) number name now d n left none = (n, refl)
heard_bare (heard.Waits talk) number name now d n left none = (n, refl)
heard_bare (heard.Asked line c talk) number name now d n left none = call_bare c line talk name now d n left (or_first (asks_to_seal c) false none)

unit_bare : (number : ℕ) (bytes : List ℕ) (talk : Talk) (name : List ℕ) (now : ℕ) (d : TrustDesk) (n : ℕ) (left : List (List ℕ)) → AskNone (call_in (hear number bytes talk)) →
    IsBare (serve_sealing (Some (bare n)) number bytes talk name now d left) (by_trust_heard (hear number bytes talk) number name now d left)
unit_bare number bytes talk name now d n left none =
    let heard = heard_bare (hear number bytes talk) number name now d n left none in
    (heard.0, ap (λ (h : SealHeard). after_heard h None number name now d (bare n) left) (heard_same number bytes talk n) ∙ heard.1)

-- ---- the units of a piece

-- what is said on the link after a unit that was served
abbrev SaysThen : Option Talk → ServedPart TrustDesk Talk → Type 0
SaysThen talk (Err why) = Unit {0}
SaysThen talk (Ok part) = part.value.1 ≡ talk

draw_says : (left : List (List ℕ)) (line : Line) (c : ChallengeCall) (talk : Talk) (d : Desk) (queues : Queues) → SaysThen (Some talk) (beside queues (draw_challenge left line c talk d))
draw_says [] line c talk d queues = tt
draw_says (server ∷ left) line c talk d queues = refl

says_then : (h : Heard) (number : ℕ) (name : List ℕ) (now : ℕ) (d : TrustDesk) (left : List (List ℕ)) → SaysThen (talk_after h) (by_trust_heard h number name now d left)
says_then (heard.Close cause) number name now d left = refl
says_then (heard.Answer bytes talk) number name now d left = refl
says_then (heard.Waits talk) number name now d left = refl
says_then (heard.Asked line (call.Challenge c) talk) number name now d left = draw_says left line c talk (base_desk d) d.work.queues
says_then (heard.Asked line (call.Authenticate c) talk) number name now d left = refl
says_then (heard.Asked line (call.Judged c) talk) number name now d left = refl

or_second : (one other : Bool) → (one || other) ≡ false → other ≡ false
or_second false other is = is
or_second true other is = absurd cc

front_none : (one two : List ControllerCall) → AskNone (one ++ two) → AskNone one
front_none [] two none = refl
front_none (c ∷ one) two none =
    ap (λ (b : Bool). b || list_any asks_to_seal one) (or_first (asks_to_seal c) (list_any asks_to_seal (one ++ two)) none)
    ∙ front_none one two (or_second (asks_to_seal c) (list_any asks_to_seal (one ++ two)) none)

behind_none : (one two : List ControllerCall) → AskNone (one ++ two) → AskNone two
behind_none [] two none = none
behind_none (c ∷ one) two none = behind_none one two (or_second (asks_to_seal c) (list_any asks_to_seal (one ++ two)) none)

module _ (name : List ℕ) (now number : ℕ) where
  abbrev plain_units : List (List ℕ) → Option UnitRefused → TrustDesk → Talk → List (List ℕ) → ServedPart TrustDesk Talk
  plain_units units why d talk left = served_by (trust_server name now number) units why d talk left

  abbrev seal_units : List (List ℕ) → Option UnitRefused → TrustDesk → ℕ → Talk → List (List ℕ) → SealPart
  seal_units units why d n talk left = served_by (seal_server name now number) units why (record { desk = d; sealing = Some (bare n) }) talk left

  behind_by : (units : List (List ℕ)) (why : Option UnitRefused) (part : Part (TrustDesk × Option Talk)) (talk : Option Talk) (n : ℕ) → part.value.1 ≡ talk →
      AskNone (calls_then talk (λ later. calls_heard number units later)) →
      ((d : TrustDesk) (m : ℕ) (later : Talk) (left : List (List ℕ)) → AskNone (calls_heard number units later) → IsBare (seal_units units why d m later left) (plain_units units why d later left)) →
      IsBare (then_talk (record { desk = part.value.0; sealing = Some (bare n) }) part.value.1 part.left (λ later said rest. served_by (seal_server name now number) units why later said rest))
      (then_talk part.value.0 part.value.1 part.left (λ later said rest. plain_units units why later said rest))
  behind_by units why part None n is none rests =
      (n, rw is refl)
  behind_by units why part (Some talk) n is none rests =
      let rest = rests part.value.0 n talk part.left none in
      subst (λ (t : Option Talk). IsBare (then_talk (record { desk = part.value.0; sealing = Some (bare n) }) t part.left (λ later said rest. served_by (seal_server name now number) units why later said rest))
      (then_talk part.value.0 t part.left (λ later said rest. plain_units units why later said rest))) (sym is) rest

  -- the units behind one that was served
  behind_bare : (units : List (List ℕ)) (why : Option UnitRefused) (part : ServedPart TrustDesk Talk) (talk : Option Talk) (n : ℕ) → SaysThen talk part →
      AskNone (calls_then talk (λ later. calls_heard number units later)) →
      ((d : TrustDesk) (m : ℕ) (later : Talk) (left : List (List ℕ)) → AskNone (calls_heard number units later) → IsBare (seal_units units why d m later left) (plain_units units why d later left)) →
      IsBare (then_open (beside_sealing (Some (bare n)) part) (λ later said rest. served_by (seal_server name now number) units why later said rest))
      (then_open part (λ later said rest. plain_units units why later said rest))
  behind_bare units why (Err refused) talk n says none rests = (n, refl)
  behind_bare units why (Ok part) talk n says none rests =
      behind_by units why part part.value.1 n refl (subst (λ (t : Option Talk). AskNone (calls_then t (λ later. calls_heard number units later))) (sym says) none) rests

  units_bare : (units : List (List ℕ)) (why : Option UnitRefused) (d : TrustDesk) (n : ℕ) (talk : Talk) (left : List (List ℕ)) → AskNone (calls_heard number units talk) →
      IsBare (seal_units units why d n talk left) (plain_units units why d talk left)
  units_bare [] None d n talk left none = (n, refl)
  units_bare [] (Some why) d n talk left none = (n, refl)
  units_bare (bytes ∷ units) why d n talk left none =
      let h : Heard = hear number bytes talk in
      let behind : List ControllerCall = calls_then (talk_after h) (λ later. calls_heard number units later) in
      let first = unit_bare number bytes talk name now d n left (front_none (call_in h) behind none) in
      let rest = behind_bare units why (by_trust_heard h number name now d left) (talk_after h) first.0 (says_then h number name now d left) (behind_none (call_in h) behind none)
      (λ e m later more. units_bare units why e m later more) in
      (rest.0, ap (λ (p : SealPart). then_open p (λ later said more. served_by (seal_server name now number) units why later said more)) first.1 ∙ rest.1)

-- ---- an event

-- a step's part as where nothing can be sealed
abbrev PartIsBare : SealStepPart → TrustPart → Type 0
PartIsBare part plain = (openings : ℕ) × (part ≡ beside_parts (Some (bare openings)) plain)

still_bare : (still : Option (LinkState Talk)) (number n : ℕ) → sealing_with still number (Some (bare n)) ≡ Some (bare n)
still_bare None number n = refl
still_bare (Some link) number n = refl

after_bare : (part : ServedPart TrustDesk Talk) (rest : List ℕ) (number n : ℕ) (others : LinkMap) (parts : Parts) →
    seal_after_units (beside_sealing (Some (bare n)) part) rest number others parts ≡ beside_parts (Some (bare n)) (after_units part rest number others parts)
after_bare (Err why) rest number n others parts = refl
after_bare (Ok part) rest number n others parts = ap (λ (s : Option Sealing). Ok (record {
  value = record {
    rest = record { table = part.value.0.table; parts = put_open (link_with rest part.value.1) number (record parts { work = part.value.0.work; links = others }) };
    sealing = s;
  };
  left = part.left;
})) (still_bare (link_with rest part.value.1) number n)

on_bare : (found : Option (LinkState Talk)) (number : ℕ) (piece name : List ℕ) (now : ℕ) (others : LinkMap) (table : AccountTable) (parts : Parts) (n : ℕ) (left : List (List ℕ)) →
    AskNone (calls_on found number piece) →
    PartIsBare (seal_serve_on found number piece name now others table parts (bare n) left) (serve_on found number piece name now others table parts left)
on_bare None number piece name now others table parts n left none = (n, refl)
on_bare (Some link) number piece name now others table parts n left none =
    let cut = cut_stream (link.rest ++ piece) in
    let served = units_bare name now number cut.units cut.refused (trust_desk table parts.work) n link.talk left none in (
      served.0,
      ap (λ (p : SealPart). seal_after_units p cut.rest number others parts) served.1
          ∙ after_bare (served_cut (trust_server name now number) cut (trust_desk table parts.work) link.talk left) cut.rest number served.0 others parts,
    )

-- no logon from a sealed link waits, so none is answered where a turn ends
ended_bare : (answer : Option (ℕ × Verdict)) (trust n : ℕ) (parts : Parts) → after_answered (answer_ended answer trust parts.work (bare n)) parts ≡ (parts, bare n)
ended_bare None trust n parts = refl
ended_bare (Some answer) trust n parts = refl

turn_bare : (found : Option Requester) (happens : Turning → Turned) (parts : Parts) (n : ℕ) → seal_turn_at found happens parts (bare n) ≡ (turn_at found happens parts, bare n)
turn_bare None happens parts n = refl
turn_bare (Some channel) happens parts n =
    let turned = happens (turning_of channel parts) in
    ended_bare (end_verdict turned.1) parts.turn_of n (after_turned parts.turn_of turned parts)

on_turn_bare : (happens : Turning → Turned) (parts : Parts) (n : ℕ) → seal_on_turn happens parts (bare n) ≡ (on_turn happens parts, bare n)
on_turn_bare happens parts n = turn_bare (slice_get parts.work.queues.requesters parts.turn_of) happens parts n

close_bare : (is_turn_link : Bool) (number : ℕ) (parts : Parts) (n : ℕ) → seal_close_by is_turn_link number parts (bare n) ≡ (close_by is_turn_link number parts, bare n)
close_bare false number parts n = refl
close_bare true number parts n = on_turn_bare (λ turning. link_closes number turning) parts n

dialled_bare : (waits : Bool) (number : ℕ) (parts : Parts) (n : ℕ) → seal_answer_dial waits number parts (bare n) ≡ (answer_dial waits number parts, bare n)
dialled_bare false number parts n = refl
dialled_bare true number parts n = on_turn_bare (λ turning. (link_answers number turning, None)) (without_link number parts) n

failed_bare : (waits : Bool) (parts : Parts) (n : ℕ) → seal_fail_dial waits parts (bare n) ≡ (fail_dial waits parts, bare n)
failed_bare false parts n = refl
failed_bare true parts n = on_turn_bare (λ turning. no_dial turning) parts n

bytes_bare : (is_turn_link : Bool) (number : ℕ) (piece name : List ℕ) (now : ℕ) (table : AccountTable) (parts : Parts) (n : ℕ) (left : List (List ℕ)) →
    AskNone (calls_if is_turn_link (calls_on (lookup same_number number parts.links) number piece)) →
    PartIsBare (seal_serve_bytes is_turn_link number piece name now table parts (bare n) left) (serve_bytes is_turn_link number piece name now table parts left)
bytes_bare true number piece name now table parts n left none =
    (n, ap (λ (done : Parts × Sealing). seal_part table done left) (on_turn_bare (λ turning. link_hears number piece turning) parts n))
bytes_bare false number piece name now table parts n left none =
    on_bare (lookup same_number number parts.links) number piece name now (take_out same_number number parts.links) table parts n left none

event_bare : (what : Event) (name : List ℕ) (now : ℕ) (table : AccountTable) (parts : Parts) (n : ℕ) (left : List (List ℕ)) → AskNone (trust_calls_of what parts.links parts.dialling) →
    PartIsBare (by_seal_event what name now table parts (bare n) left) (by_trust_event what name now table parts left)
event_bare (event.Opened number) name now table parts n left none =
    (n, ap (λ (done : Parts × Sealing). seal_part table (seal_open_number number done) left) (close_bare (is_on number parts.dialling) number parts n))
event_bare (event.Bytes number piece) name now table parts n left none = bytes_bare (is_on number parts.dialling) number piece name now table parts n left none
event_bare (event.Closed number) name now table parts n left none =
    (n, ap (λ (done : Parts × Sealing). seal_part table done left) (close_bare (is_on number parts.dialling) number parts n))
event_bare (event.Dialled number) name now table parts n left none =
    (n, ap (λ (done : Parts × Sealing). seal_part table done left) (dialled_bare (is_waiting parts.dialling) number parts n))
event_bare event.DialFailed name now table parts n left none =
    (n, ap (λ (done : Parts × Sealing). seal_part table done left) (failed_bare (is_waiting parts.dialling) parts n))
event_bare event.Stop name now table parts n left none = (n, refl)

-- ---- the next turn

next_bare : (next : Result (Part Parts) StepRefused) (table : AccountTable) (n : ℕ) →
    then_part next (λ later last. Ok (record { value = record { rest = record { table = table; parts = later }; sealing = Some (bare n) }; left = last }))
    ≡ beside_parts (Some (bare n)) (then_part next (λ later last. trust_part table later last))
next_bare (Err why) table n = refl
next_bare (Ok part) table n = refl

then_bare : (part : TrustPart) (trusts : List Trust) (now n : ℕ) →
    then_part (beside_parts (Some (bare n)) part) (λ (after : SealParts) rest. then_part (next_turn trusts now after.rest.parts rest) (λ later last. Ok (record {
      value = record { rest = record { table = after.rest.table; parts = later }; sealing = after.sealing };
      left = last;
    })))
    ≡ beside_parts (Some (bare n)) (then_part part (λ after rest. then_part (next_turn trusts now after.parts rest) (λ later last. trust_part after.table later last)))
then_bare (Err why) trusts now n = refl
then_bare (Ok part) trusts now n = next_bare (next_turn trusts now part.value.parts part.left) part.value.table n

whole_bare : (trusts : List Trust) (what : Event) (name : List ℕ) (now : ℕ) (table : AccountTable) (parts : Parts) (n : ℕ) (left : List (List ℕ)) →
    AskNone (trust_calls_of what parts.links parts.dialling) →
    PartIsBare (seal_event_and_turn trusts what name now table parts (bare n) left) (event_and_turn trusts what name now table parts left)
whole_bare trusts what name now table parts n left none =
    let done = event_bare what name now table parts n left none in (
      done.0,
      ap (λ (p : SealStepPart). then_part p (λ (after : SealParts) rest. then_part (next_turn trusts now after.rest.parts rest) (λ later last. Ok (record {
        value = record { rest = record { table = after.rest.table; parts = later }; sealing = after.sealing };
        left = last;
      })))) done.1 ∙ then_bare (by_trust_event what name now table parts left) trusts now done.0,
    )

-- ---- a step

-- the step is that of one that can't seal, and nothing is sealed then
abbrev StaysPlain : Stepped State → Stepped State → Type 0
StaysPlain stepped plain = (plain_step stepped ≡ plain) × SealsNothing stepped.state.trusting.sealing

abbrev stepped_by : State → List (List ℕ) → TrustPart → Stepped State
stepped_by s left part =
    step_by (λ (after : TrustParts). after.parts.work.work.actions) (λ after. trust_state_after s after) (trust_halted s) left part

abbrev seal_stepped_by : State → List (List ℕ) → SealStepPart → Stepped State
seal_stepped_by s left part =
    step_by (λ (after : SealParts). after.rest.parts.work.work.actions) (λ after. seal_state_after s after) (trust_halted s) left part

part_plain : (part : TrustPart) (s : State) (n : ℕ) (left : List (List ℕ)) →
    StaysPlain (seal_stepped_by s left (beside_parts (Some (bare n)) part)) (stepped_by (without_sealing s) left part)
part_plain (Err why) s n left = (refl, tt)
part_plain (Ok part) s n left = (refl, bare_none n)

on_plain : (running : Option Running) (s : State) (what : Event) (now n : ℕ) (left : List (List ℕ)) → s.trusting.sealing ≡ Some (bare n) →
    AskNone (calls_at running what s.trusting.dialling) → StaysPlain (seal_step_on running (bare n) s what now left) (trust_step_on running (without_sealing s) what now left)
on_plain None s what now n left is none = (refl, subst SealsNothing (sym is) (bare_none n))
on_plain (Some running) s what now n left is none =
    let parts : Parts = parts_of running s.trusting in
    let done = whole_bare s.table.trusts what s.name now s.table parts n left none in
    subst (λ (p : SealStepPart). StaysPlain (seal_stepped_by s left p) (trust_step_on (Some running) (without_sealing s) what now left)) (sym done.1)
    (part_plain (event_and_turn s.table.trusts what s.name now s.table parts left) s done.0 left)

-- one that can't seal
part_none : (s : State) (left : List (List ℕ)) (part : TrustPart) → (stepped_by s left part).state.trusting.sealing ≡ None
part_none s left (Err why) = refl
part_none s left (Ok part) = refl

stays_none : (running : Option Running) (s : State) (what : Event) (now : ℕ) (left : List (List ℕ)) → s.trusting.sealing ≡ None →
    (trust_step_on running s what now left).state.trusting.sealing ≡ None
stays_none None s what now left none = none
stays_none (Some running) s what now left none = part_none s left (trust_step_part running s what now left)

stepped_same : (stepped : Stepped State) → stepped.state.trusting.sealing ≡ None → plain_step stepped ≡ stepped
stepped_same stepped none = ap (λ (o : Option Sealing). record stepped { state = record stepped.state { trusting = record stepped.state.trusting { sealing = o } } }) (sym none)

plain_already : (s : State) (what : Event) (now : ℕ) (left : List (List ℕ)) → s.trusting.sealing ≡ None → StaysPlain (trust_step_of s what now left) (trust_step_of (without_sealing s) what now left)
plain_already s what now left none =
    let same : without_sealing s ≡ s = ap (λ (o : Option Sealing). record s { trusting = record s.trusting { sealing = o } }) (sym none) in
    let stays : (trust_step_of s what now left).state.trusting.sealing ≡ None = stays_none s.running s what now left none in
    (stepped_same (trust_step_of s what now left) stays ∙ ap (λ (t : State). trust_step_of t what now left) (sym same), subst SealsNothing (sym stays) tt)

step_with_plain : (sealing : Option Sealing) (s : State) (what : Event) (now : ℕ) (left : List (List ℕ)) → s.trusting.sealing ≡ sealing → SealsNothing sealing → asks_in s what ≡ false →
    StaysPlain (step_with sealing s what now left) (trust_step_of (without_sealing s) what now left)
step_with_plain None s what now left is none asks = plain_already s what now left is
step_with_plain (Some sealing) s what now left is none asks =
    let bares : sealing ≡ bare sealing.seals.openings = none_is sealing none in
    subst (λ (one : Sealing). StaysPlain (seal_step_on s.running one s what now left) (trust_step_of (without_sealing s) what now left)) (sym bares)
    (on_plain s.running s what now sealing.seals.openings left (is ∙ ap (λ (one : Sealing). Some one) bares) asks)

pub step_plain : (s : State) (what : Event) (now : ℕ) (left : List (List ℕ)) → SealsNothing s.trusting.sealing → asks_in s what ≡ false →
    StaysPlain (seal_step_of s what now left) (trust_step_of (without_sealing s) what now left)
step_plain s what now left none asks = step_with_plain s.trusting.sealing s what now left refl none asks

pub steps_stay_plain : StepsStayPlain
steps_stay_plain = record {
  first = λ table name. bare_none 0;
  as_plain = λ table name. refl;
  step = λ s what now left none asks. (step_plain s what now left none asks).0;
  stays = λ s what now left none asks. (step_plain s what now left none asks).1;
}
