-- How a call on a secure channel is judged at a controller that can seal, by the link on which it came. It serves
-- `calls_pass_on_their_own_links`.
use Rattle.std.proofs.Common.{◌≡◌, ◌↔◌, ◌&&◌, ℕ, Bool, true, false, List, [], ◌∷◌, ◌++◌, Option, Some, None, is_none, refl, sym, ap, subst, ◌∙◌, append_assoc}
use Rattle.std.specs.List.{AllByRecursion}
use Rattle.std.proofs.lemmas.Slice.Eq.{bytes_eq-Decides}
use Rattle.std.proofs.lemmas.List.Concat.{flat_map-append}
use Rattle.wire_base.specs.Maps.{lookup, put, take_out}
use Rattle.wire_base.specs.Names.{same_name}
use Rattle.wire_base.specs.declared.authenticator.Authenticator.{Authenticator}
use Rattle.account_table.specs.AccountTable.{AccountTable}
use Rattle.authenticators.specs.Sequences.{Passes, return_of}
use Rattle.authenticators.specs.SecureChannels.{SecureChannelState, channel_by, key_of_channel, passes_on, return_by}
use Rattle.outside.specs.declared.action.Action.{Action}
use Rattle.outside.specs.declared.action.Action.TheVariants as action
use Rattle.outside.specs.declared.action.CloseCause.TheVariants as close
use Rattle.outside.specs.declared.action.Judged.{Judged}
use Rattle.outside.specs.declared.action.Judged.TheVariants as judged
use Rattle.logon_stubs.specs.Status.{no_logon_servers}
use Rattle.channel_client.specs.State.{Requester}
use Rattle.controller_calls.specs.Asking.{answer_judged, refuse_asked}
use Rattle.controller_calls.specs.Calls.{asked_of, computer_named, given_in}
use Rattle.controller_calls.specs.Desk.{Desk, desk, take_channel}
use Rattle.controller_calls.specs.Doing.{Done, done_asked, how_refused, kept_asked, move_on, refused_on, refused_stub}
use Rattle.controller_calls.specs.Handing.{CallPlace, hand_on, trust_asked}
use Rattle.controller_calls.specs.Passing.{IsKeep, IsNext, is_passed}
use Rattle.controller_calls.specs.Seals.{belongs, is_on, seal_reply, stands}
use Rattle.controller_calls.specs.Unsent.{Unsent, call_unsent, named_unsent, on_unsent, owned_unsent, pass_or_hand_unsent, refuse_unsent, returned_unsent, told_unasked, unasked_stub}
use Rattle.controller_calls.specs.declared.calls.Asked.{Asked}
use Rattle.controller_calls.specs.declared.calls.Asked.TheVariants as asked
use Rattle.controller_calls.specs.declared.calls.JudgedCall.{JudgedCall}
use Rattle.controller_calls.specs.declared.handing.HandOn.{HandOn}
use Rattle.controller_calls.specs.declared.line.Line.{Line}
use Rattle.controller_calls.specs.declared.seals.ChannelSeals.{ChannelSeals}
use Rattle.controller_calls.specs.declared.seals.KeptSeal.{KeptSeal}
use Rattle.controller_calls.specs.declared.seals.LinkSeal.{LinkSeal}
use Rattle.controller_calls.specs.declared.seals.ReplySeal.{ReplySeal}
use Rattle.controller_calls.specs.declared.state.Computers.{Computers}
use Rattle.controller_calls.specs.declared.state.Work.{Work}
use Rattle.controller_calls.proofs.DoneLaws.{channels_left}
use Rattle.controller_calls.proofs.OutcomeLaws.{IsRefusedAs, JudgedComes, Passes as JudgedPasses, Refused, asked_refused, judged_comes, not_both, one_channel, one_given, texts_kept}
use Rattle.controller_calls.proofs.RefusalLaws.{none_taken, put_back}
use Rattle.domain_controller.specs.Forwarding.{TrustDesk, answer_trust_call, ask_trust, base_desk, fits_on, place_of_call}
use Rattle.domain_controller.specs.SealJudging.{IsBarredOn, IsJudgedOn, IsNextOn, IsOnOwnLink}
use Rattle.domain_controller.specs.SealServing.{SealedPart, after_unsent, answer_owned, forward_sealed, judge_sealed, judge_unsent, reply_sealed, send_sealed, unasked_sealed, wait_or_leave_sealed}
use Rattle.domain_controller.specs.Sealing.{with_seals}
use Rattle.domain_controller.specs.Sessions.{told_among, told_in}
use Rattle.domain_controller.specs.declared.sealed.Sealing.{Sealing}
use Rattle.domain_controller.specs.declared.state.Talk.{Talk}
use Rattle.domain_controller.specs.declared.trusting.Queues.{Queues}
use Rattle.domain_controller.specs.declared.trusting.TrustWork.{TrustWork}
use Rattle.domain_controller.proofs.HandOnLaws.{AnsweredHere, CallComes, CallGoes, ForwardedOn, GoesOn, IsLeft, StaysHere, call_comes, call_goes}

-- ---- whose link it is

none_is : {T : Type 0} (found : Option T) → is_none found ≡ true → found ≡ None
none_is None is = refl
none_is (Some kept) is = absurd (let x = is in cc)

both_are : (one other : Bool) → (one && other) ≡ true → (one ≡ true) × (other ≡ true)
both_are true true is = (refl, refl)
both_are true false is = absurd (let x = is in cc)
both_are false other is = absurd (let x = is in cc)

pub own_from : (link : Option LinkSeal) (computer : List ℕ) (seals : ChannelSeals) → is_on link computer seals ≡ true → IsOnOwnLink link computer seals
own_from None computer seals is = none_is (lookup same_name computer seals.kept) is
own_from (Some link) computer seals is = both_are (same_name computer link.computer) (stands link seals) is

pub own_so : (link : Option LinkSeal) (computer : List ℕ) (seals : ChannelSeals) → IsOnOwnLink link computer seals → is_on link computer seals ≡ true
own_so None computer seals is = ap (λ (found : Option KeptSeal). is_none found) is
own_so (Some link) computer seals is = ap (λ (one : Bool). one && stands link seals) is.0 ∙ is.1

-- ---- how a call that doesn't pass is told: its computer has a channel, or none

data WhyNot (c : JudgedCall) (computers : Computers) (how : Judged) : Type 0 where
  HasOne : (computer : List ℕ) (given : Authenticator) (channel : SecureChannelState) → computer_named c ≡ Some computer → given_in c ≡ Some given →
      lookup same_name computer computers.channels ≡ Some channel → how ≡ judged.Barred → WhyNot c computers how
  HasNone : ((computer : List ℕ) (given : Authenticator) (channel : SecureChannelState) → computer_named c ≡ Some computer → given_in c ≡ Some given →
      lookup same_name computer computers.channels ≡ Some channel → ⊥) → how ≡ judged.NoChannel → WhyNot c computers how

module _ (c : JudgedCall) (computers : Computers) where
  why_found : (found : Option SecureChannelState) (computer : List ℕ) (given : Authenticator) → computer_named c ≡ Some computer → given_in c ≡ Some given →
      lookup same_name computer computers.channels ≡ found → WhyNot c computers (refused_on found)
  why_found None computer given named there none = HasNone (λ other more channel also too stands.
      let same : computer ≡ other = let both : Some computer ≡ Some other = sym named ∙ also in cc in
      absurd (let never : None ≡ Some channel = sym none ∙ ap (λ (n : List ℕ). lookup same_name n computers.channels) same ∙ stands in cc)) refl
  why_found (Some channel) computer given named there stands = HasOne computer given channel named there stands refl

  why_named : (named : Option (List ℕ)) (given : Option Authenticator) → computer_named c ≡ named → given_in c ≡ given → WhyNot c computers (how_refused named given computers)
  why_named None given is there = HasNone (λ other more channel also too stands. absurd (let never : None ≡ Some other = sym is ∙ also in cc)) refl
  why_named (Some computer) None is there = HasNone (λ other more channel also too stands. absurd (let never : None ≡ Some more = sym there ∙ too in cc)) refl
  why_named (Some computer) (Some given) is there = why_found (lookup same_name computer computers.channels) computer given is there refl

  why_not : WhyNot c computers (how_refused (computer_named c) (given_in c) computers)
  why_not = why_named (computer_named c) (given_in c) refl refl

-- ---- judged on its own link, or on another

module _ (link : Option LinkSeal) (c : JudgedCall) (computers : Computers) (seals : ChannelSeals) where
  abbrev Next : Type 0
  Next = IsNext computers (computer_named c) (given_in c)

  own_for : belongs link (computer_named c) seals ≡ true → (computer : List ℕ) → computer_named c ≡ Some computer → IsOnOwnLink link computer seals
  own_for own computer named = own_from link computer seals (sym (ap (λ (n : Option (List ℕ)). belongs link n seals) named) ∙ own)

  -- a call isn't barred and the next one at once: channel and authenticator would be the same
  not_both_so : Next → IsBarredOn link c computers seals → ⊥
  not_both_so next by =
      let channel : by.channel ≡ next.channel =
      one_channel by.computer next.computer by.channel next.channel computers (sym by.named ∙ next.named) by.stands next.stands in
      let given : by.given ≡ next.given = one_given by.given next.given (sym by.there ∙ next.there) in
      by.fails (subst (λ (ch : SecureChannelState). Passes (key_of_channel ch) ch.seed by.given) (sym channel)
      (subst (λ (g : Authenticator). Passes (key_of_channel next.channel) next.channel.seed g) (sym given) next.passes))

  passed_so : (how : Judged) → belongs link (computer_named c) seals ≡ true → is_passed how ≡ true → Next → IsJudgedOn link c computers seals how
  passed_so how own is next =
      let on : IsNextOn link c computers seals = record { next = next; own = own_for own next.computer next.named } in
      record {
        passed = (λ so. on, λ other. is);
        barred = (λ so. absurd (let x : true ≡ false = sym is ∙ ap is_passed so in cc), λ by. absurd (not_both_so next by));
        missing = (λ so. absurd (let x : true ≡ false = sym is ∙ ap is_passed so in cc), λ none. absurd (none.0 on));
      }

  away_so : (how : Judged) → belongs link (computer_named c) seals ≡ true → is_passed how ≡ false → (Next → ⊥) → WhyNot c computers how → IsJudgedOn link c computers seals how
  away_so how own is not (HasOne computer given channel named there stands so) =
      let by : IsBarredOn link c computers seals = record {
        computer = computer;
        given = given;
        channel = channel;
        named = named;
        there = there;
        stands = stands;
        own = own_for own computer named;
        fails = λ passes. not (record { computer = computer; given = given; channel = channel; named = named; there = there; stands = stands; passes = passes });
      } in
      record {
        passed = (λ other. absurd (let x : false ≡ true = sym is ∙ other in cc), λ on. absurd (not on.next));
        barred = (λ other. by, λ other. so);
        missing = (λ other. absurd (let x : judged.Barred ≡ judged.NoChannel = sym so ∙ other in cc), λ none. absurd (none.1 by));
      }
  away_so how own is not (HasNone none so) = record {
    passed = (λ other. absurd (let x : false ≡ true = sym is ∙ other in cc), λ on. absurd (not on.next));
    barred = (λ other. absurd (let x : judged.NoChannel ≡ judged.Barred = sym so ∙ other in cc), λ by. absurd (none by.computer by.given by.channel by.named by.there by.stands));
    missing = (λ other. (λ on. not on.next, λ by. none by.computer by.given by.channel by.named by.there by.stands), λ other. so);
  }

  right_by : (passed : Bool) (how : Judged) → is_passed how ≡ passed → belongs link (computer_named c) seals ≡ true → ((is_passed how ≡ true) ↔ Next) →
      (is_passed how ≡ false → how ≡ how_refused (computer_named c) (given_in c) computers) → IsJudgedOn link c computers seals how
  right_by true how is own passes refused = passed_so how own is (passes.0 is)
  right_by false how is own passes refused =
      away_so how own is (λ next. absurd (let x : false ≡ true = sym is ∙ passes.1 next in cc))
      (subst (λ (h : Judged). WhyNot c computers h) (sym (refused is)) (why_not c computers))

  pub judged_right : (how : Judged) → belongs link (computer_named c) seals ≡ true → ((is_passed how ≡ true) ↔ Next) →
      (is_passed how ≡ false → how ≡ how_refused (computer_named c) (given_in c) computers) → IsJudgedOn link c computers seals how
  judged_right how own passes refused = right_by (is_passed how) how refl own passes refused

  away_from : belongs link (computer_named c) seals ≡ false → (computer : List ℕ) → computer_named c ≡ Some computer → IsOnOwnLink link computer seals → ⊥
  away_from not computer named own =
      let never : false ≡ true = sym not ∙ ap (λ (n : Option (List ℕ)). belongs link n seals) named ∙ own_so link computer seals own in
      absurd cc

  pub judged_away : belongs link (computer_named c) seals ≡ false → IsJudgedOn link c computers seals judged.NoChannel
  judged_away not = record {
    passed = (λ is. absurd (let x = is in cc), λ on. absurd (away_from not on.next.computer on.next.named on.own));
    barred = (λ is. absurd (let x = is in cc), λ by. absurd (away_from not by.computer by.named by.own));
    missing = (λ is. (λ on. away_from not on.next.computer on.next.named on.own, λ by. away_from not by.computer by.named by.own), λ none. refl);
  }

-- ---- what is told

-- what is added to the actions
pub record Adds (before after : List Action) (told : List Judged) : Type 0 where
  pub new : List Action
  pub is : after ≡ before ++ new
  pub tells : told_among new ≡ told

pub then_adds : (a b c : List Action) (one other : List Judged) → Adds a b one → Adds b c other → Adds a c (one ++ other)
then_adds a b c one other first second = record {
  new = first.new ++ second.new;
  is = second.is ∙ ap (λ (old : List Action). old ++ second.new) first.is ∙ append_assoc a first.new second.new;
  tells = flat_map-append told_in first.new second.new ∙ ap (λ (told : List Judged). told ++ told_among second.new) first.tells ∙ ap (λ (told : List Judged). one ++ told) second.tells;
}

texts_tell : (kept later : List Action) → AllByRecursion IsKeep kept → told_among (kept ++ later) ≡ told_among later
texts_tell [] later are = refl
texts_tell (action.Keep text ∷ kept) later are = texts_tell kept later are.1
texts_tell (action.Send at more ∷ kept) later are = absurd are.0
texts_tell (action.Dial peer ∷ kept) later are = absurd are.0
texts_tell (action.Close at cause ∷ kept) later are = absurd are.0
texts_tell (action.Told at outcome ∷ kept) later are = absurd are.0
texts_tell (action.Judged other ∷ kept) later are = absurd are.0

-- ---- what is left of the channels

abbrev pub Channels : Type 0
Channels = List (List ℕ × SecureChannelState)

-- the channel of a call that passes has moved on
abbrev pub channels_on : {computers : Computers} {named : Option (List ℕ)} {given : Option Authenticator} → IsNext computers named given → Channels
channels_on {computers} next =
    put same_name next.computer (channel_by true next.channel next.given) (take_out same_name next.computer computers.channels)

pub data ChannelsLeft (c : JudgedCall) (computers : Computers) (channels : Channels) : Type 0 where
  Moved : (next : IsNext computers (computer_named c) (given_in c)) → channels ≡ channels_on next → ChannelsLeft c computers channels
  Stayed : (IsNext computers (computer_named c) (given_in c) → ⊥) → ((other : List ℕ) → lookup same_name other channels ≡ lookup same_name other computers.channels) →
      ChannelsLeft c computers channels

moved_so : (c : JudgedCall) (d : Desk) (next : IsNext d.work.computers (computer_named c) (given_in c)) →
    (move_on next.computer next.channel next.given d).work.computers.channels ≡ channels_on next
moved_so c d next =
    ap (λ (passes : Bool). put same_name next.computer (channel_by passes next.channel next.given) (take_out same_name next.computer d.work.computers.channels))
    ((bytes_eq-Decides _ _).1 next.passes)

-- a call is told once, by whether its authenticator is the next one
pub record Judges (c : JudgedCall) (before after : Work) : Type 0 where
  pub how : Judged
  pub adds : Adds before.actions after.actions (how ∷ [])
  pub passes : (is_passed how ≡ true) ↔ IsNext before.computers (computer_named c) (given_in c)
  pub refused : is_passed how ≡ false → how ≡ how_refused (computer_named c) (given_in c) before.computers
  pub left : ChannelsLeft c before.computers after.computers.channels

pub then_judges : (c : JudgedCall) (a b e : Work) → Judges c a b → Adds b.actions e.actions [] → e.computers ≡ b.computers → Judges c a e
then_judges c a b e first adds same = record {
  how = first.how;
  adds = then_adds a.actions b.actions e.actions (first.how ∷ []) [] first.adds adds;
  passes = first.passes;
  refused = first.refused;
  left = subst (λ (computers : Computers). ChannelsLeft c a.computers computers.channels) (sym same) first.left;
}

-- ---- on a link that isn't sealed

here_left : (c : JudgedCall) (name : List ℕ) (now : ℕ) (line : Line) (d after : Desk) → JudgedComes c name now line d after → ChannelsLeft c d.work.computers after.work.computers.channels
here_left c name now line d after (JudgedPasses next is) = Moved next (is.channels ∙ moved_so c d next)
here_left c name now line d after (Refused how away) = Stayed away.not_next (λ other. channels_left c d.work.computers how after.work.computers.channels other away.why)

trust_left : (c : JudgedCall) (name : List ℕ) (now : ℕ) (line : Line) (d after : TrustDesk) → CallGoes c name now line d after →
    ChannelsLeft c d.work.work.computers after.work.work.computers.channels
trust_left c name now line d after (GoesOn is so) = Moved is.goes.next (ap (λ (all : Computers). all.channels) so.computers ∙ moved_so c (base_desk d) is.goes.next)
trust_left c name now line d after (IsLeft goes so) = Moved goes.next (ap (λ (all : Computers). all.channels) so.computers ∙ moved_so c (base_desk d) goes.next)
trust_left c name now line d after (StaysHere not is) =
    subst (λ (other : TrustDesk). ChannelsLeft c d.work.work.computers other.work.work.computers.channels) (sym is)
    (here_left c name now line (base_desk d) (answer_judged c name now line (base_desk d)) (judged_comes c name now line (base_desk d)))

trust_judges : (c : JudgedCall) (line : Line) (d after : TrustDesk) → ChannelsLeft c d.work.work.computers after.work.work.computers.channels → CallComes c line d after →
    Judges c d.work.work after.work.work
trust_judges c line d after left (ForwardedOn is so) = record {
  how = judged.Forwarded;
  adds = record { new = _; is = so.actions; tells = refl };
  passes = (λ passed. is.goes.next, λ other. refl);
  refused = λ not. absurd (let x = not in cc);
  left = left;
}
trust_judges c line d after left (AnsweredHere so) = record {
  how = so.how;
  adds = record { new = _; is = so.actions; tells = texts_tell so.kept _ so.texts };
  passes = so.passes;
  refused = so.refused;
  left = left;
}

-- ---- a call whose reply isn't sent yet

pub data UnsentComes (c : JudgedCall) (before : Desk) (u : Unsent) : Type 0 where
  Answers : (stub : List ℕ) → Judges c before.work u.0.work → u.1 ≡ (Some stub, None) → UnsentComes c before u
  HandsOn : (next : IsNext before.work.computers (computer_named c) (given_in c)) (handed : HandOn) → u.0.work.actions ≡ before.work.actions →
      u.0.work.computers.channels ≡ channels_on next → u.1 ≡ (None, Some handed) → UnsentComes c before u

-- network logons alone are handed on
network_handed : (what : Asked) (kind : Option ℕ) (table : AccountTable) (trusts trust : ℕ) (line : Line) (key credential : List ℕ) → trust_asked what kind table trusts ≡ Some trust →
    (handed : HandOn) × (hand_on what trust line key credential ≡ Some handed)
network_handed (asked.Network info validation) kind table trusts trust line key credential is = (_, refl)
network_handed (asked.Interactive info validation) kind table trusts trust line key credential is = absurd (let x = is in cc)
network_handed (asked.Logoff info) kind table trusts trust line key credential is = absurd (let x = is in cc)
network_handed asked.NetworkLogoff kind table trusts trust line key credential is = absurd (let x = is in cc)
network_handed (asked.Set account type hidden) kind table trusts trust line key credential is = absurd (let x = is in cc)

module _ (c : JudgedCall) (at : CallPlace) (d : Desk) where
  abbrev NextAt : Type 0
  NextAt = IsNext d.work.computers (computer_named c) (given_in c)

  -- a call is refused at work whose actions are those of the desk, and whose channels are found as at the desk
  refused_comes : (how : Judged) (between : Desk) → between.work.actions ≡ d.work.actions →
      ((other : List ℕ) → lookup same_name other between.work.computers.channels ≡ lookup same_name other d.work.computers.channels) → is_passed how ≡ false → (NextAt → ⊥) →
      how ≡ how_refused (computer_named c) (given_in c) d.work.computers → UnsentComes c d (refuse_unsent (asked_of c) how between)
  refused_comes how between same found not none is = Answers _ (record {
    how = how;
    adds = record { new = action.Judged how ∷ []; is = ap (λ (old : List Action). old ++ action.Judged how ∷ []) same; tells = refl };
    passes = (λ so. absurd (let x : false ≡ true = sym not ∙ so in cc), λ next. absurd (none next));
    refused = λ so. is;
    left = Stayed none found;
  }) refl

  unsent_trust : (found : Option ℕ) (next : NextAt) → trust_asked (asked_of c) next.channel.kind d.table at.trusts ≡ found →
      UnsentComes c d (pass_or_hand_unsent found (asked_of c) at next.computer (key_of_channel next.channel) (return_of (key_of_channel next.channel) next.channel.seed next.given.timestamp)
      (move_on next.computer next.channel next.given d))
  unsent_trust None next none =
      let done : Done = done_asked (asked_of c) next.computer (key_of_channel next.channel) at.name d.table at.now d.work.computers.sessions in
      Answers _ (record {
        how = judged.Passed done.status;
        adds = record { new = kept_asked (asked_of c) done ++ action.Judged (judged.Passed done.status) ∷ []; is = refl; tells = texts_tell (kept_asked (asked_of c) done) _ (texts_kept (asked_of c) done) };
        passes = (λ so. next, λ other. refl);
        refused = λ not. absurd (let x = not in cc);
        left = Moved next (moved_so c d next);
      }) refl
  unsent_trust (Some trust) next asks =
      let handed = network_handed (asked_of c) next.channel.kind d.table at.trusts trust at.line (key_of_channel next.channel)
      (return_of (key_of_channel next.channel) next.channel.seed next.given.timestamp) asks in
      HandsOn next handed.0 refl (moved_so c d next) (ap (λ (h : Option HandOn). (None, h)) handed.1)

  unsent_pass : (passes : Bool) (computer : List ℕ) (given : Authenticator) (channel : SecureChannelState) → computer_named c ≡ Some computer → given_in c ≡ Some given →
      lookup same_name computer d.work.computers.channels ≡ Some channel → passes_on channel given ≡ passes →
      UnsentComes c d (returned_unsent (return_by passes channel given) channel (asked_of c) at computer (move_on computer channel given d))
  unsent_pass true computer given channel named there stands is =
      unsent_trust (trust_asked (asked_of c) channel.kind d.table at.trusts)
      (record { computer = computer; given = given; channel = channel; named = named; there = there; stands = stands; passes = (bytes_eq-Decides _ _).0 is }) refl
  unsent_pass false computer given channel named there stands is =
      refused_comes judged.Barred (move_on computer channel given d) refl
      (λ other.
      ap (λ (passes : Bool). lookup same_name other (put same_name computer (channel_by passes channel given) (take_out same_name computer d.work.computers.channels))) is
      ∙ put_back computer other channel d.work.computers.channels stands)
      refl
      (λ next.
      not_both channel next.channel given next.given (one_channel computer next.computer channel next.channel d.work.computers (sym named ∙ next.named) stands next.stands)
      (one_given given next.given (sym there ∙ next.there)) is ((bytes_eq-Decides _ _).1 next.passes))
      (sym (rw (named, there, stands) refl))

  unsent_channel : (found : Option SecureChannelState) (computer : List ℕ) (given : Authenticator) → computer_named c ≡ Some computer → given_in c ≡ Some given →
      lookup same_name computer d.work.computers.channels ≡ found → UnsentComes c d (on_unsent found given (asked_of c) at computer (desk d.table (take_channel computer d.work)))
  unsent_channel None computer given named there stands =
      refused_comes judged.NoChannel (desk d.table (take_channel computer d.work)) refl
      (λ other. ap (λ (entries : Channels). lookup same_name other entries) (none_taken computer d.work.computers.channels stands))
      refl
      (λ next.
      let same : computer ≡ next.computer = let both : Some computer ≡ Some next.computer = sym named ∙ next.named in cc in
      absurd (let never : None ≡ Some next.channel = sym stands ∙ ap (λ (n : List ℕ). lookup same_name n d.work.computers.channels) same ∙ next.stands in cc))
      (sym (rw (named, there, stands) refl))
  unsent_channel (Some channel) computer given named there stands = unsent_pass (passes_on channel given) computer given channel named there stands refl

  unsent_named : (computer : Option (List ℕ)) (given : Option Authenticator) → computer_named c ≡ computer → given_in c ≡ given →
      UnsentComes c d (named_unsent computer given (asked_of c) at d)
  unsent_named None given named there =
      refused_comes judged.NoChannel d refl (λ other. refl) refl (λ next. absurd (let never : None ≡ Some next.computer = sym named ∙ next.named in cc)) (sym (rw named refl))
  unsent_named (Some computer) None named there =
      refused_comes judged.NoChannel d refl (λ other. refl) refl (λ next. absurd (let never : None ≡ Some next.given = sym there ∙ next.there in cc)) (sym (rw (named, there) refl))
  unsent_named (Some computer) (Some given) named there = unsent_channel (lookup same_name computer d.work.computers.channels) computer given named there refl

  pub unsent_comes : UnsentComes c d (call_unsent c at d)
  unsent_comes = unsent_named (computer_named c) (given_in c) refl refl

-- ---- on a sealed link: the reply behind it tells nothing, nor does it take away what is kept to seal

abbrev work_in : SealedPart → Work
work_in done = done.0.0.work

-- what it adds to the work, of which the computers stay
record Behind (before after : Work) (told : List Judged) : Type 0 where
  adds : Adds before.actions after.actions told
  computers : after.computers ≡ before.computers

reply_behind : (bytes : Option (List ℕ)) (line : Line) (w : TrustWork) (s : Sealing) (talk : Talk) → Behind w.work (work_in (send_sealed bytes line w s talk)) []
reply_behind None line w s talk = record { adds = record { new = action.Close line.link close.BadAuthentication ∷ []; is = refl; tells = refl }; computers = refl }
reply_behind (Some bytes) line w s talk = record { adds = record { new = action.Send line.link bytes ∷ []; is = refl; tells = refl }; computers = refl }

sealed_behind : (reply : ReplySeal) (line : Line) (stub : List ℕ) (w : TrustWork) (s : Sealing) (talk : Talk) → Behind w.work (work_in (reply_sealed reply line stub w s talk)) []
sealed_behind reply line stub w s talk =
    let sealed = seal_reply reply line stub s.seals in
    reply_behind sealed.bytes line w (with_seals sealed.seals s) talk

-- a logon that is handed on has passed
record PassesOn (before after : Work) : Type 0 where
  how : Judged
  behind : Behind before after (how ∷ [])
  passed : is_passed how ≡ true

unasked_passes : (handed : HandOn) (reply : ReplySeal) (line : Line) (w : TrustWork) (s : Sealing) (talk : Talk) → PassesOn w.work (work_in (unasked_sealed handed.call reply line w s talk))
unasked_passes handed reply line w s talk =
    let told : TrustWork = record w { work = told_unasked w.work } in
    let behind = sealed_behind reply line (unasked_stub handed.call) told s talk in
    record {
      how = judged.Passed no_logon_servers;
      behind = record {
        adds = then_adds w.work.actions told.work.actions _ (judged.Passed no_logon_servers ∷ []) []
            (record { new = action.Judged (judged.Passed no_logon_servers) ∷ []; is = refl; tells = refl }) behind.adds;
        computers = behind.computers;
      };
      passed = refl;
    }

waits_pass : (asks : List Requester × Option ℕ) (handed : HandOn) (reply : ReplySeal) (line : Line) (w : TrustWork) (s : Sealing) (talk : Talk) →
    PassesOn w.work (work_in (wait_or_leave_sealed asks handed.trust handed.call reply line w s talk))
waits_pass (requesters, None) handed reply line w s talk = unasked_passes handed reply line w s talk
waits_pass (requesters, Some place) handed reply line w s talk = record {
  how = judged.Forwarded;
  behind = record { adds = record { new = action.Judged judged.Forwarded ∷ []; is = refl; tells = refl }; computers = refl };
  passed = refl;
}

forward_passes : (fits : Bool) (handed : HandOn) (reply : ReplySeal) (line : Line) (w : TrustWork) (s : Sealing) (talk : Talk) →
    PassesOn w.work (work_in (forward_sealed fits handed reply line w s talk))
forward_passes false handed reply line w s talk = unasked_passes handed reply line w s talk
forward_passes true handed reply line w s talk = waits_pass (ask_trust handed.info handed.trust w.queues.requesters) handed reply line w s talk

passes_judges : (c : JudgedCall) (before between after : Work) (next : IsNext before.computers (computer_named c) (given_in c)) → between.actions ≡ before.actions →
    between.computers.channels ≡ channels_on next → PassesOn between after → Judges c before after
passes_judges c before between after next same channels one = record {
  how = one.how;
  adds = subst (λ (old : List Action). Adds old after.actions (one.how ∷ [])) same one.behind.adds;
  passes = (λ so. next, λ other. one.passed);
  refused = λ not. absurd (let x : false ≡ true = sym not ∙ one.passed in cc);
  left = Moved next (ap (λ (all : Computers). all.channels) one.behind.computers ∙ channels);
}

sealed_judges : (c : JudgedCall) (before : Desk) (u : Unsent) (reply : ReplySeal) (line : Line) (queues : Queues) (s : Sealing) (talk : Talk) → UnsentComes c before u →
    Judges c before.work (judge_unsent u reply line queues s talk).0.0.work.work
sealed_judges c before u reply line queues s talk (Answers stub judges is) =
    let w : TrustWork = record { work = u.0.work; queues = queues } in
    let behind = sealed_behind reply line stub w s talk in
    subst (λ (all : Option (List ℕ) × Option HandOn). Judges c before.work (work_in (after_unsent all.0 all.1 reply line w s talk))) (sym is)
    (then_judges c before.work u.0.work _ judges behind.adds behind.computers)
sealed_judges c before u reply line queues s talk (HandsOn next handed same channels is) =
    let w : TrustWork = record { work = u.0.work; queues = queues } in
    subst (λ (all : Option (List ℕ) × Option HandOn). Judges c before.work (work_in (after_unsent all.0 all.1 reply line w s talk))) (sym is)
    (passes_judges c before.work u.0.work _ next same channels (forward_passes (fits_on handed.info) handed reply line w s talk))

-- ---- judged by its link

-- what a call leaves of the channels, judged by its link
pub data LeftOn (link : Option LinkSeal) (c : JudgedCall) (computers : Computers) (seals : ChannelSeals) (channels : Channels) : Type 0 where
  MovedOn : (on : IsNextOn link c computers seals) → channels ≡ channels_on on.next → LeftOn link c computers seals channels
  StayedOn : (IsNextOn link c computers seals → ⊥) → ((other : List ℕ) → lookup same_name other channels ≡ lookup same_name other computers.channels) →
      LeftOn link c computers seals channels

-- how a call on that link is told
pub record ToldOn (link : Option LinkSeal) (c : JudgedCall) (seals : ChannelSeals) (before after : Work) : Type 0 where
  pub how : Judged
  pub adds : Adds before.actions after.actions (how ∷ [])
  pub is : IsJudgedOn link c before.computers seals how
  pub left : LeftOn link c before.computers seals after.computers.channels

left_right : (link : Option LinkSeal) (c : JudgedCall) (computers : Computers) (seals : ChannelSeals) (channels : Channels) → belongs link (computer_named c) seals ≡ true →
    ChannelsLeft c computers channels → LeftOn link c computers seals channels
left_right link c computers seals channels own (Moved next is) =
    MovedOn (record { next = next; own = own_for link c computers seals own next.computer next.named }) is
left_right link c computers seals channels own (Stayed none found) = StayedOn (λ on. none on.next) found

told_right : (link : Option LinkSeal) (c : JudgedCall) (seals : ChannelSeals) (before after : Work) → belongs link (computer_named c) seals ≡ true →
    Judges c before after → ToldOn link c seals before after
told_right link c seals before after own judges = record {
  how = judges.how;
  adds = judges.adds;
  is = judged_right link c before.computers seals judges.how own judges.passes judges.refused;
  left = left_right link c before.computers seals after.computers.channels own judges.left;
}

-- one that came on another link changes no channel
told_away : (link : Option LinkSeal) (c : JudgedCall) (seals : ChannelSeals) (before after : Work) → belongs link (computer_named c) seals ≡ false →
    Adds before.actions after.actions (judged.NoChannel ∷ []) → after.computers ≡ before.computers → ToldOn link c seals before after
told_away link c seals before after not adds same =
    let is : IsJudgedOn link c before.computers seals judged.NoChannel = judged_away link c before.computers seals not in
    record {
      how = judged.NoChannel;
      adds = adds;
      is = is;
      left = StayedOn (is.missing.0 refl).0 (λ other. ap (λ (all : Computers). lookup same_name other all.channels) same);
    }

pub clear_told : (own : Bool) (c : JudgedCall) (name : List ℕ) (now : ℕ) (line : Line) (d : TrustDesk) (seals : ChannelSeals) → belongs None (computer_named c) seals ≡ own →
    ToldOn None c seals d.work.work (answer_owned own c name now line d).work.work
clear_told true c name now line d seals own =
    let after : TrustDesk = answer_trust_call c name now line d in
    told_right None c seals d.work.work after.work.work own
    (trust_judges c line d after (trust_left c name now line d after (call_goes c name now line d)) (call_comes c name now line d))
clear_told false c name now line d seals own =
    let so : IsRefusedAs judged.NoChannel line d.work.work (refuse_asked (asked_of c) judged.NoChannel line d.work.work) = asked_refused (asked_of c) judged.NoChannel line d.work.work in
    told_away None c seals d.work.work (refuse_asked (asked_of c) judged.NoChannel line d.work.work) own (record { new = _; is = so.actions; tells = refl }) so.computers

unsent_told : (own : Bool) (link : LinkSeal) (c : JudgedCall) (at : CallPlace) (d : TrustDesk) (seals : ChannelSeals) (reply : ReplySeal) (line : Line) (s : Sealing) (talk : Talk) →
    belongs (Some link) (computer_named c) seals ≡ own →
    ToldOn (Some link) c seals d.work.work (judge_unsent (owned_unsent own c at (base_desk d)) reply line d.work.queues s talk).0.0.work.work
unsent_told true link c at d seals reply line s talk own =
    told_right (Some link) c seals d.work.work _ own
    (sealed_judges c (base_desk d) (call_unsent c at (base_desk d)) reply line d.work.queues s talk (unsent_comes c at (base_desk d)))
unsent_told false link c at d seals reply line s talk own =
    let between : TrustWork = record { work = (refuse_unsent (asked_of c) judged.NoChannel (base_desk d)).0.work; queues = d.work.queues } in
    let behind = sealed_behind reply line (refused_stub (asked_of c)) between s talk in
    told_away (Some link) c seals d.work.work _ own
    (then_adds d.work.work.actions between.work.actions _ (judged.NoChannel ∷ []) [] (record { new = action.Judged judged.NoChannel ∷ []; is = refl; tells = refl }) behind.adds)
    behind.computers

-- the seals of which `belongs` is known are those before the unit was opened
pub sealed_told : (link : LinkSeal) (c : JudgedCall) (confounder : List ℕ) (line : Line) (talk : Talk) (name : List ℕ) (now : ℕ) (d : TrustDesk) (s : Sealing) (seals : ChannelSeals) →
    belongs (Some link) (computer_named c) s.seals ≡ belongs (Some link) (computer_named c) seals →
    ToldOn (Some link) c seals d.work.work (judge_sealed c link confounder line talk name now d s).0.0.work.work
sealed_told link c confounder line talk name now d s seals same =
    unsent_told (belongs (Some link) (computer_named c) s.seals) link c (place_of_call name now line d.work.queues) d seals (record { link = link; confounder = confounder }) line s talk
    (sym same)
