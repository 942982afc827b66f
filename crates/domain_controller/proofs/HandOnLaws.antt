-- Which calls on a channel are handed on. It serves `a_logon_goes_by_its_domain`.
use Rattle.std.proofs.Common.{◌≡◌, ◌↔◌, ◌<◌, ℕ, zero, suc, Bool, true, false, nat_le, nat_lt, List, [], ◌∷◌, length, Option, Some, None, Ok, slice_get, slice_set, refl, sym, ap, subst, ◌∙◌, arith}
use Rattle.std.proofs.lemmas.Bool.Decides.{nat_tests}
use Rattle.std.proofs.lemmas.Slice.Eq.{bytes_eq-Decides}
use Rattle.wire_base.specs.Maps.{lookup}
use Rattle.wire_base.specs.Names.{same_name}
use Rattle.wire_base.specs.declared.authenticator.Authenticator.{Authenticator}
use Rattle.authenticators.specs.Sequences.{return_of}
use Rattle.authenticators.specs.SecureChannels.{SecureChannelState, key_of_channel, passes_on, return_by}
use Rattle.outside.specs.declared.action.Judged.{Judged}
use Rattle.outside.specs.declared.action.Judged.TheVariants as judged
use Rattle.logon_stubs.specs.declared.info.NetworkInfo.{NetworkInfo}
use Rattle.account_table.specs.AccountTable.{AccountTable}
use Rattle.account_table.specs.LookUps.{route_in}
use Rattle.account_table.specs.declared.table.Route.{Route}
use Rattle.account_table.specs.declared.table.Route.TheVariants as route
use Rattle.channel_client.specs.declared.answers.AskRefused.TheVariants as ask_refused
use Rattle.channel_client.specs.Machine.{ask_by, ask_of}
use Rattle.channel_client.specs.State.{Requester}
use Rattle.controller_calls.specs.Asking.{answer_judged, answers_to, pass_asked}
use Rattle.controller_calls.specs.Calls.{asked_of, computer_named, given_in}
use Rattle.controller_calls.specs.Desk.{Desk, desk, take_channel}
use Rattle.controller_calls.specs.Doing.{move_on}
use Rattle.controller_calls.specs.Forwarded.{forwarded_call}
use Rattle.controller_calls.specs.Handing.{CallPlace, Handing, hand_on, hands_on, judge_call, judge_named, judge_on, judge_returned, pass_or_hand, trust_asked, trust_below, trust_by}
use Rattle.controller_calls.specs.Judging.{answer_named, answer_on, answer_return}
use Rattle.controller_calls.specs.Logons.{serves_level}
use Rattle.controller_calls.specs.Passing.{IsNext, is_passed, judges_call}
use Rattle.controller_calls.specs.declared.calls.Asked.{Asked}
use Rattle.controller_calls.specs.declared.calls.Asked.TheVariants as asked
use Rattle.controller_calls.specs.declared.calls.JudgedCall.{JudgedCall}
use Rattle.controller_calls.specs.declared.handing.HandOn.{HandOn}
use Rattle.controller_calls.specs.declared.line.Line.{Line}
use Rattle.controller_calls.specs.declared.state.Computers.{Computers}
use Rattle.logon_stubs.specs.Status.{no_logon_servers}
use Rattle.controller_calls.proofs.DoneLaws.{does_what_passes}
use Rattle.controller_calls.proofs.OutcomeLaws.{JudgedComes, Passes, Refused, WhyRefused, Bare, Barred, judged_comes, not_both, one_channel, one_given, texts_kept, two}
use Rattle.domain_controller.specs.Forwarding.{TrustDesk, after_handing, answer_trust_call, ask_trust, base_desk, fits_on, forward_handed, forward_if, leave_unasked, place_of_call, trust_desk, wait_at, wait_or_leave, with_queues}
use Rattle.domain_controller.specs.TrustLaws.{ForwardsByTrust, IsAnsweredHere, IsForTrust, IsForwarded, IsLeftUnasked, IsToBeForwarded, is_forwarded}
use Rattle.domain_controller.specs.declared.trusting.TrustWork.{TrustWork}
use Rattle.domain_controller.proofs.ForwardLaws.{asked_none, asked_place}

-- ---- a call is judged here, or handed on

-- a call passes, and a trust's controller can be asked for its logon
record IsHandedOn (c : JudgedCall) (at : CallPlace) (before : Desk) : Type 0 where
  next : IsNext before.work.computers (computer_named c) (given_in c)
  trust : ℕ
  asks : trust_asked (asked_of c) next.channel.kind before.table at.trusts ≡ Some trust

-- what a call that is handed on comes to, by the computer, its channel, the authenticator and the trust
abbrev handed_by : JudgedCall → CallPlace → Desk → List ℕ → SecureChannelState → Authenticator → ℕ → Handing
handed_by c at before computer channel given trust = (
  move_on computer channel given before,
  hand_on (asked_of c) trust at.line (key_of_channel channel) (return_of (key_of_channel channel) channel.seed given.timestamp),
)

data HandingComes (c : JudgedCall) (at : CallPlace) (before here : Desk) (handing : Handing) : Type 0 where
  Here : (IsHandedOn c at before → ⊥) → handing ≡ (here, None) → HandingComes c at before here handing
  HandsOn : (is : IsHandedOn c at before) →
      handing ≡ handed_by c at before is.next.computer is.next.channel is.next.given is.trust → HandingComes c at before here handing

module _ (c : JudgedCall) (at : CallPlace) (d : Desk) where
  one_name : (computer other : List ℕ) → computer_named c ≡ Some computer → computer_named c ≡ Some other → computer ≡ other
  one_name computer other named also = let both : Some computer ≡ Some other = sym named ∙ also in cc

  by_trust : (found : Option ℕ) (computer : List ℕ) (given : Authenticator) (channel : SecureChannelState) → computer_named c ≡ Some computer → given_in c ≡ Some given →
      lookup same_name computer d.work.computers.channels ≡ Some channel → passes_on channel given ≡ true → trust_asked (asked_of c) channel.kind d.table at.trusts ≡ found →
      HandingComes c at d
      (pass_asked (asked_of c) at.name at.now at.line computer (key_of_channel channel) (return_of (key_of_channel channel) channel.seed given.timestamp) (move_on computer channel given d))
      (pass_or_hand found (asked_of c) at computer (key_of_channel channel) (return_of (key_of_channel channel) channel.seed given.timestamp) (move_on computer channel given d))
  by_trust None computer given channel named there stands passes none = Here (λ is.
      let same : channel ≡ is.next.channel = one_channel computer is.next.computer channel is.next.channel d.work.computers (sym named ∙ is.next.named) stands is.next.stands in
      let never : None ≡ Some is.trust = sym none ∙ ap (λ (other : SecureChannelState). trust_asked (asked_of c) other.kind d.table at.trusts) same ∙ is.asks in
      absurd (let x = never in cc)) refl
  by_trust (Some trust) computer given channel named there stands passes asks = HandsOn (record {
    next = record { computer = computer; given = given; channel = channel; named = named; there = there; stands = stands; passes = (bytes_eq-Decides _ _).0 passes };
    trust = trust;
    asks = asks;
  }) refl

  by_pass : (passes : Bool) (computer : List ℕ) (given : Authenticator) (channel : SecureChannelState) → computer_named c ≡ Some computer → given_in c ≡ Some given →
      lookup same_name computer d.work.computers.channels ≡ Some channel → passes_on channel given ≡ passes →
      HandingComes c at d
      (answer_return (return_by passes channel given) (answers_to (asked_of c) at.name at.now at.line).refused ((answers_to (asked_of c) at.name at.now at.line).passed computer channel) (move_on computer channel given d))
      (judge_returned (return_by passes channel given) channel (asked_of c) at computer (move_on computer channel given d))
  by_pass true computer given channel named there stands is =
      by_trust (trust_asked (asked_of c) channel.kind d.table at.trusts) computer given channel named there stands is refl
  by_pass false computer given channel named there stands is = Here (λ handed.
      let next = handed.next in
      not_both channel next.channel given next.given (one_channel computer next.computer channel next.channel d.work.computers (sym named ∙ next.named) stands next.stands)
      (one_given given next.given (sym there ∙ next.there)) is ((bytes_eq-Decides _ _).1 next.passes)) refl

  by_channel : (found : Option SecureChannelState) (computer : List ℕ) (given : Authenticator) → computer_named c ≡ Some computer → given_in c ≡ Some given →
      lookup same_name computer d.work.computers.channels ≡ found →
      HandingComes c at d (answer_on found computer given (answers_to (asked_of c) at.name at.now at.line) (desk d.table (take_channel computer d.work)))
      (judge_on found given (asked_of c) at computer (desk d.table (take_channel computer d.work)))
  by_channel None computer given named there stands = Here (λ handed.
      let next = handed.next in
      let same : computer ≡ next.computer = one_name computer next.computer named next.named in
      let never : None ≡ Some next.channel = sym stands ∙ ap (λ (n : List ℕ). lookup same_name n d.work.computers.channels) same ∙ next.stands in
      absurd (let x = never in cc)) refl
  by_channel (Some channel) computer given named there stands = by_pass (passes_on channel given) computer given channel named there stands refl

  by_names : (computer : Option (List ℕ)) (given : Option Authenticator) → computer_named c ≡ computer → given_in c ≡ given →
      HandingComes c at d (answer_named computer given (answers_to (asked_of c) at.name at.now at.line) d) (judge_named computer given (asked_of c) at d)
  by_names None given named there = Here (λ handed. absurd (let never : None ≡ Some handed.next.computer = sym named ∙ handed.next.named in cc)) refl
  by_names (Some computer) None named there =
      Here (λ handed. absurd (let never : None ≡ Some handed.next.given = sym there ∙ handed.next.there in cc)) refl
  by_names (Some computer) (Some given) named there = by_channel (lookup same_name computer d.work.computers.channels) computer given named there refl

  handing_comes : HandingComes c at d (answer_judged c at.name at.now at.line d) (judge_call c at d)
  handing_comes = by_names (computer_named c) (given_in c) refl refl

  -- a call that is handed on comes to one handing, however it is known to be handed on
  handed_so : (is : IsHandedOn c at d) (here : Desk) (handing : Handing) → HandingComes c at d here handing →
      handing ≡ handed_by c at d is.next.computer is.next.channel is.next.given is.trust
  handed_so is here handing (Here not same) = absurd (not is)
  handed_so is here handing (HandsOn other same) =
      let channel : other.next.channel ≡ is.next.channel =
      one_channel other.next.computer is.next.computer other.next.channel is.next.channel d.work.computers (sym other.next.named ∙ is.next.named) other.next.stands is.next.stands in
      let computer : other.next.computer ≡ is.next.computer = one_name other.next.computer is.next.computer other.next.named is.next.named in
      let given : other.next.given ≡ is.next.given = one_given other.next.given is.next.given (sym other.next.there ∙ is.next.there) in
      let both : Some other.trust ≡ Some is.trust =
      sym other.asks ∙ ap (λ (ch : SecureChannelState). trust_asked (asked_of c) ch.kind d.table at.trusts) channel ∙ is.asks in
      let trust : other.trust ≡ is.trust = (let x = both in cc) in
      same
      ∙ ap (λ (n : List ℕ). handed_by c at d n other.next.channel other.next.given other.trust) computer
      ∙ ap (λ (ch : SecureChannelState). handed_by c at d is.next.computer ch other.next.given other.trust) channel
      ∙ ap (λ (g : Authenticator). handed_by c at d is.next.computer is.next.channel g other.trust) given
      ∙ ap (λ (t : ℕ). handed_by c at d is.next.computer is.next.channel is.next.given t) trust

-- ---- which trust is asked

record AsksTrust (what : Asked) (kind : Option ℕ) (table : AccountTable) (trusts trust : ℕ) : Type 0 where
  info : NetworkInfo
  validation : ℕ
  asks : what ≡ asked.Network info validation
  hands : hands_on kind ≡ true
  level : serves_level validation ≡ true
  routed : route_in table info.domain ≡ route.Trust trust
  below : trust < trusts

abbrev IsTrustBelow : Bool → Bool → Route → ℕ → ℕ → Type 0
IsTrustBelow hands serves to trusts trust = (hands ≡ true) × (serves ≡ true) × (to ≡ route.Trust trust) × (nat_lt trust trusts ≡ true)

below_from : (below : Bool) (other trusts trust : ℕ) → nat_lt other trusts ≡ below → trust_below below other ≡ Some trust → (other ≡ trust) × (nat_lt trust trusts ≡ true)
below_from false other trusts trust is found = absurd (let x = found in cc)
below_from true other trusts trust is found =
    let same : other ≡ trust = (let x = found in cc) in
    (same, subst (λ (t : ℕ). nat_lt t trusts ≡ true) same is)

trust_from : (hands serves : Bool) (to : Route) (trusts trust : ℕ) → trust_by hands serves to trusts ≡ Some trust → IsTrustBelow hands serves to trusts trust
trust_from true true (route.Trust other) trusts trust found =
    let is = below_from (nat_lt other trusts) other trusts trust refl found in
    (refl, refl, ap (λ (t : ℕ). route.Trust t) is.0, is.1)
trust_from true true route.Own trusts trust found = absurd (let x = found in cc)
trust_from true true route.Elsewhere trusts trust found = absurd (let x = found in cc)
trust_from true false to trusts trust found = absurd (let x = found in cc)
trust_from false serves to trusts trust found = absurd (let x = found in cc)

asks_from : (what : Asked) (kind : Option ℕ) (table : AccountTable) (trusts trust : ℕ) → trust_asked what kind table trusts ≡ Some trust → AsksTrust what kind table trusts trust
asks_from (asked.Network info validation) kind table trusts trust found =
    let is = trust_from (hands_on kind) (serves_level validation) (route_in table info.domain) trusts trust found in
    record {
      info = info;
      validation = validation;
      asks = refl;
      hands = is.0;
      level = is.1;
      routed = is.2;
      below = grind (arith, nat_tests);
    }
asks_from (asked.Interactive info validation) kind table trusts trust found = absurd (let x = found in cc)
asks_from (asked.Logoff info) kind table trusts trust found = absurd (let x = found in cc)
asks_from asked.NetworkLogoff kind table trusts trust found = absurd (let x = found in cc)
asks_from (asked.Set account type hidden) kind table trusts trust found = absurd (let x = found in cc)

asks_so : (what : Asked) (kind : Option ℕ) (table : AccountTable) (info : NetworkInfo) (validation trusts trust : ℕ) → what ≡ asked.Network info validation → hands_on kind ≡ true →
    serves_level validation ≡ true → route_in table info.domain ≡ route.Trust trust → nat_lt trust trusts ≡ true → trust_asked what kind table trusts ≡ Some trust
asks_so what kind table info validation trusts trust asks hands level routed below =
    ap (λ (w : Asked). trust_asked w kind table trusts) asks
    ∙ ap (λ (h : Bool). trust_by h (serves_level validation) (route_in table info.domain) trusts) hands
    ∙ ap (λ (s : Bool). trust_by true s (route_in table info.domain) trusts) level
    ∙ ap (λ (to : Route). trust_by true true to trusts) routed
    ∙ ap (λ (b : Bool). trust_below b trust) below

-- ---- a logon that is to be forwarded is

inside : {T : Type 0} (items : List T) (at : ℕ) (item : T) → slice_get items at ≡ Some item → nat_lt at (length items) ≡ true
inside [] at item is = absurd (let x = is in cc)
inside (first ∷ items) zero item is = grind (arith, nat_tests)
inside (first ∷ items) (suc at) item is = let below = inside items at item is in grind (arith, nat_tests)

missing : {T : Type 0} (items : List T) (at : ℕ) → at < length items → slice_get items at ≡ None → ⊥
missing [] at lt none = absurd (omega arith)
missing (first ∷ items) zero lt none = absurd (let x = none in cc)
missing (first ∷ items) (suc at) lt none = missing items at (omega arith) none

pub not_full : (waiting : ℕ) → waiting < 64 → nat_le 64 waiting ≡ false
not_full waiting lt = grind (arith, nat_tests)

has_room : (waiting : ℕ) → nat_le 64 waiting ≡ false → waiting < 64
has_room waiting not = grind (arith, nat_tests)

not_forwarded : (how : Judged) → is_passed how ≡ false → is_forwarded how ≡ false
not_forwarded (judged.Passed status) not = absurd (let x = not in cc)
not_forwarded judged.Forwarded not = absurd (let x = not in cc)
not_forwarded (judged.Answered status) not = refl
not_forwarded judged.Barred not = refl
not_forwarded judged.NoChannel not = refl

-- A call is handed on; or nobody is asked for it, though it is for a trust; or it comes to what it comes to where
-- nobody is asked.
pub data CallGoes (c : JudgedCall) (name : List ℕ) (now : ℕ) (line : Line) (before after : TrustDesk) : Type 0 where
  GoesOn : (is : IsToBeForwarded c before) → IsForwarded c line before after is → CallGoes c name now line before after
  IsLeft : (goes : IsForTrust c before) → IsLeftUnasked c line before after goes → CallGoes c name now line before after
  StaysHere : (IsForTrust c before → ⊥) → after ≡ with_queues before.work.queues (answer_judged c name now line (base_desk before)) →
      CallGoes c name now line before after

-- a call is handed on, or it is answered here
pub data CallComes (c : JudgedCall) (line : Line) (before after : TrustDesk) : Type 0 where
  ForwardedOn : (is : IsToBeForwarded c before) → IsForwarded c line before after is → CallComes c line before after
  AnsweredHere : IsAnsweredHere c line before after → CallComes c line before after

pub judges_refused : (c : JudgedCall) (computers : Computers) (how : Judged) (channels : List (List ℕ × SecureChannelState)) → WhyRefused c computers how channels → judges_call how ≡ true
judges_refused c computers how channels (Bare none is same) = ap judges_call is
judges_refused c computers how channels (Barred by is back) = ap judges_call is

module _ (c : JudgedCall) (name : List ℕ) (now : ℕ) (line : Line) (d : TrustDesk) where
  abbrev place : CallPlace
  place = place_of_call name now line d.work.queues

  abbrev Next : Type 0
  Next = IsNext d.work.work.computers (computer_named c) (given_in c)

  -- the channel has moved on
  abbrev moved : Next → TrustWork
  moved next = record { work = (move_on next.computer next.channel next.given (base_desk d)).work; queues = d.work.queues }

  abbrev logon_on : Next → NetworkInfo → ℕ → ℕ → HandOn
  logon_on next info validation trust = record {
    trust = trust;
    info = info;
    call = forwarded_call line validation (key_of_channel next.channel)
        (return_of (key_of_channel next.channel) next.channel.seed next.given.timestamp);
  }

  -- a call that asks for a network logon, and is handed on
  handed_is : (is : IsHandedOn c place (base_desk d)) (info : NetworkInfo) (validation : ℕ) → asked_of c ≡ asked.Network info validation →
      answer_trust_call c name now line d ≡ trust_desk d.table (forward_handed (Some (logon_on is.next info validation is.trust)) line (moved is.next))
  handed_is is info validation asks =
      let key : List ℕ = key_of_channel is.next.channel in
      let credential : List ℕ = return_of key is.next.channel.seed is.next.given.timestamp in
      ap (λ (handing : Handing). after_handing handing line d.work.queues)
      (handed_so c place (base_desk d) is (answer_judged c name now line (base_desk d)) (judge_call c place (base_desk d)) (handing_comes c place (base_desk d)))
      ∙ ap (λ (what : Asked). after_handing (move_on is.next.computer is.next.channel is.next.given (base_desk d), hand_on what is.trust line key credential) line d.work.queues) asks

  abbrev handed_with : IsForTrust c d → IsHandedOn c place (base_desk d)
  handed_with goes = record {
    next = goes.next;
    trust = goes.trust;
    asks = asks_so (asked_of c) goes.next.channel.kind d.table goes.info goes.validation (length d.work.queues.requesters) goes.trust goes.asks goes.hands goes.level goes.routed
        (inside d.work.queues.requesters goes.trust goes.requester goes.at);
  }

  abbrev logon_for : IsForTrust c d → HandOn
  logon_for goes = logon_on goes.next goes.info goes.validation goes.trust

  goes_so : (goes : IsForTrust c d) (fits : Bool) → fits_on goes.info ≡ fits →
      answer_trust_call c name now line d ≡ trust_desk d.table (forward_if fits (logon_for goes) line (moved goes.next))
  goes_so goes fits is =
      handed_is (handed_with goes) goes.info goes.validation goes.asks
      ∙ ap (λ (b : Bool). trust_desk d.table (forward_if b (logon_for goes) line (moved goes.next))) is

  waits_so : (is : IsToBeForwarded c d) → IsForwarded c line d (answer_trust_call c name now line d) is
  waits_so is =
      let goes : IsForTrust c d = is.goes in
      let logon : HandOn = logon_for goes in
      let answer : (ask_of goes.requester goes.info).answer ≡ Ok goes.requester.next_place =
      ap (λ (b : Bool). (ask_by b goes.requester goes.info).answer) (not_full (length goes.requester.waiting) is.room) in
      let same : answer_trust_call c name now line d
      ≡ trust_desk d.table (wait_at goes.requester.next_place goes.trust logon.call (slice_set d.work.queues.requesters goes.trust (ask_of goes.requester goes.info).state) (moved goes.next)) =
      goes_so goes true is.fits
      ∙ ap (λ (asks : List Requester × Option ℕ). trust_desk d.table (wait_or_leave asks goes.trust logon.call line (moved goes.next)))
      (asked_place goes.info goes.trust goes.requester.next_place d.work.queues.requesters goes.requester (ask_of goes.requester goes.info).state goes.at answer refl) in
      subst (λ (after : TrustDesk). IsForwarded c line d after is) (sym same)
      (record { table = refl; computers = refl; actions = refl; requesters = refl; forwarded = refl })

  -- ---- nobody is asked for one that finds no room, or is too long

  abbrev Unasked : IsForTrust c d → TrustDesk → Type 0
  Unasked goes after = IsLeftUnasked c line d after goes

  unasked_so : (goes : IsForTrust c d) → Unasked goes (trust_desk d.table (leave_unasked (logon_for goes).call line (moved goes.next)))
  unasked_so goes = record { table = refl; computers = refl; actions = two d.work.work.actions _ _; queues = refl }

  long_so : (goes : IsForTrust c d) → fits_on goes.info ≡ false → Unasked goes (answer_trust_call c name now line d)
  long_so goes fits = subst (λ (after : TrustDesk). Unasked goes after) (sym (goes_so goes false fits)) (unasked_so goes)

  no_room : (goes : IsForTrust c d) → fits_on goes.info ≡ true → nat_le 64 (length goes.requester.waiting) ≡ true → Unasked goes (answer_trust_call c name now line d)
  no_room goes fits room =
      let none : ask_trust goes.info goes.trust d.work.queues.requesters ≡ (d.work.queues.requesters, None) =
      asked_none goes.info goes.trust d.work.queues.requesters goes.requester ask_refused.QueueFull goes.at
      (ap (λ (b : Bool). (ask_by b goes.requester goes.info).answer) room) in
      let same : answer_trust_call c name now line d ≡ trust_desk d.table (leave_unasked (logon_for goes).call line (moved goes.next)) =
      goes_so goes true fits
      ∙ ap (λ (asks : List Requester × Option ℕ). trust_desk d.table (wait_or_leave asks goes.trust (logon_for goes).call line (moved goes.next))) none in
      subst (λ (after : TrustDesk). Unasked goes after) (sym same) (unasked_so goes)

  goes_by : (goes : IsForTrust c d) (fits is_full : Bool) → fits_on goes.info ≡ fits → nat_le 64 (length goes.requester.waiting) ≡ is_full →
      CallGoes c name now line d (answer_trust_call c name now line d)
  goes_by goes false is_full fits room = IsLeft goes (long_so goes fits)
  goes_by goes true true fits room = IsLeft goes (no_room goes fits room)
  goes_by goes true false fits room =
      let there : IsToBeForwarded c d = record { goes = goes; room = has_room (length goes.requester.waiting) room; fits = fits } in
      GoesOn there (waits_so there)

  full_by : (goes : IsForTrust c d) (fits is_full : Bool) → (IsToBeForwarded c d → ⊥) → fits_on goes.info ≡ fits → nat_le 64 (length goes.requester.waiting) ≡ is_full →
      Unasked goes (answer_trust_call c name now line d)
  full_by goes false is_full not fits room = long_so goes fits
  full_by goes true true not fits room = no_room goes fits room
  full_by goes true false not fits room = absurd (not (record { goes = goes; room = has_room (length goes.requester.waiting) room; fits = fits }))

  full_so : (goes : IsForTrust c d) → (IsToBeForwarded c d → ⊥) → Unasked goes (answer_trust_call c name now line d)
  full_so goes not = full_by goes (fits_on goes.info) (nat_le 64 (length goes.requester.waiting)) not refl refl

  -- ---- any other is answered here

  never : (how : Judged) → is_passed how ≡ false → (Next → ⊥) → (is_passed how ≡ true) ↔ Next
  never how not none = (λ is. absurd (let x : false ≡ true = sym not ∙ is in cc), λ next. absurd (none next))

  judged_so : (here : Desk) → JudgedComes c name now line (base_desk d) here → IsAnsweredHere c line d (with_queues d.work.queues here)
  judged_so here (Passes next is) = record {
    kept = _;
    texts = texts_kept (asked_of c) _;
    how = _;
    judges = refl;
    not = refl;
    passes = (λ so. next, λ other. refl);
    refused = λ not. absurd (let x = not in cc);
    answer = _;
    actions = is.actions;
    queues = refl;
  }
  judged_so here (Refused how away) = record {
    kept = [];
    texts = tt;
    how = how;
    judges = judges_refused c d.work.work.computers how here.work.computers.channels away.why;
    not = not_forwarded how away.not_passed;
    passes = never how away.not_passed away.not_next;
    refused = λ not. away.is_how;
    answer = _;
    actions = away.actions;
    queues = refl;
  }

  left_so : (after : TrustDesk) (goes : IsForTrust c d) → Unasked goes after → IsAnsweredHere c line d after
  left_so after goes so = record {
    kept = [];
    texts = tt;
    how = judged.Passed no_logon_servers;
    judges = refl;
    not = refl;
    passes = (λ passed. goes.next, λ other. refl);
    refused = λ not. absurd (let x = not in cc);
    answer = _;
    actions = so.actions;
    queues = so.queues;
  }

  -- ---- by what it comes to where nobody is asked

  goes_with : (is : IsHandedOn c place (base_desk d)) (asks : AsksTrust (asked_of c) is.next.channel.kind d.table (length d.work.queues.requesters) is.trust)
      (requester : Requester) → slice_get d.work.queues.requesters is.trust ≡ Some requester → IsForTrust c d
  goes_with is asks requester at = record {
    next = is.next;
    info = asks.info;
    validation = asks.validation;
    asks = asks.asks;
    hands = asks.hands;
    level = asks.level;
    trust = is.trust;
    routed = asks.routed;
    requester = requester;
    at = at;
  }

  handed_goes : (is : IsHandedOn c place (base_desk d)) (asks : AsksTrust (asked_of c) is.next.channel.kind d.table (length d.work.queues.requesters) is.trust)
      (found : Option Requester) → slice_get d.work.queues.requesters is.trust ≡ found → CallGoes c name now line d (answer_trust_call c name now line d)
  handed_goes is asks None none = absurd (missing d.work.queues.requesters is.trust asks.below none)
  handed_goes is asks (Some requester) at =
      let goes : IsForTrust c d = goes_with is asks requester at in
      goes_by goes (fits_on goes.info) (nat_le 64 (length goes.requester.waiting)) refl refl

  goes_so_by : (here : Desk) (handing : Handing) → judge_call c place (base_desk d) ≡ handing → answer_judged c name now line (base_desk d) ≡ here →
      HandingComes c place (base_desk d) here handing → CallGoes c name now line d (answer_trust_call c name now line d)
  goes_so_by here handing same is (Here none comes) =
      StaysHere (λ goes. none (handed_with goes))
      (ap (λ (h : Handing). after_handing h line d.work.queues) (same ∙ comes) ∙ ap (λ (desk : Desk). with_queues d.work.queues desk) (sym is))
  goes_so_by here handing same is (HandsOn handed comes) =
      handed_goes handed (asks_from (asked_of c) handed.next.channel.kind d.table (length d.work.queues.requesters) handed.trust handed.asks)
      (slice_get d.work.queues.requesters handed.trust) refl

  pub call_goes : CallGoes c name now line d (answer_trust_call c name now line d)
  call_goes =
      goes_so_by (answer_judged c name now line (base_desk d)) (judge_call c place (base_desk d)) refl refl (handing_comes c place (base_desk d))

  comes_from : (after : TrustDesk) → CallGoes c name now line d after → CallComes c line d after
  comes_from after (GoesOn is so) = ForwardedOn is so
  comes_from after (IsLeft goes so) = AnsweredHere (left_so after goes so)
  comes_from after (StaysHere not is) =
      AnsweredHere (subst (λ (other : TrustDesk). IsAnsweredHere c line d other) (sym is)
      (judged_so (answer_judged c name now line (base_desk d)) (judged_comes c name now line (base_desk d))))

  pub call_comes : CallComes c line d (answer_trust_call c name now line d)
  call_comes = comes_from (answer_trust_call c name now line d) call_goes

  here_from : (after : TrustDesk) → (IsForTrust c d → ⊥) → CallGoes c name now line d after → after ≡ with_queues d.work.queues (answer_judged c name now line (base_desk d))
  here_from after not (GoesOn is so) = absurd (not is.goes)
  here_from after not (IsLeft goes so) = absurd (not goes)
  here_from after not (StaysHere other is) = is

  pub here_so : (IsForTrust c d → ⊥) → answer_trust_call c name now line d ≡ with_queues d.work.queues (answer_judged c name now line (base_desk d))
  here_so not = here_from (answer_trust_call c name now line d) not call_goes

answered_so : (c : JudgedCall) (line : Line) (d after : TrustDesk) → (IsToBeForwarded c d → ⊥) → CallComes c line d after → IsAnsweredHere c line d after
answered_so c line d after not (ForwardedOn is so) = absurd (not is)
answered_so c line d after not (AnsweredHere so) = so

pub forwards_by_trust : ForwardsByTrust
forwards_by_trust = record {
  forwards = λ c name now line d is. waits_so c name now line d is;
  other = λ c name now line d not. answered_so c line d (answer_trust_call c name now line d) not (call_comes c name now line d);
  full = λ c name now line d goes not. full_so c name now line d goes not;
  here = λ c name now line d not. here_so c name now line d not;
  denied = λ c name now line d not.
      ap (λ (after : TrustDesk). after.work.work.actions) (here_so c name now line d (λ goes. not goes.next))
      ∙ does_what_passes.denied c name now line (base_desk d) not;
  heard = λ c line talk link name now d left. refl;
}
