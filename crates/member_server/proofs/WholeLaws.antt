-- The law `what_turns_send_is_whole`: the links, the turn, and a step.
use Rattle.std.proofs.Common.{◌≡◌, ℕ, ◌<◌, ◌^◌, ◌==◌, Bool, true, false, List, [], ◌∷◌, ◌++◌, Option, Some, None, Result, Ok, Err, refl, sym, ap, subst, arith, inl, inr, length, length-append, if◌then◌else◌}
use Rattle.std.specs.Prelude.{All}
use Rattle.std.specs.List.{AllByRecursion}
use Rattle.std.proofs.Math.Nat.{mod-lt}
use Rattle.std.proofs.lemmas.Bool.{cases_lt}
use Rattle.std.proofs.lemmas.Bool.Decides.{Decides-eqb}
use Rattle.std.proofs.lemmas.List.{get_or_past}
use Rattle.std.proofs.lemmas.List.Elements.{All-append, All-from_recursion, All-get_or}
use Rattle.wire_base.specs.Maps.{has_key, lookup, put, same_number, take_out}
use Rattle.wire_base.specs.Names.{IsName, IsNameByte}
use Rattle.wire_base.specs.Numbers.{AreBytes}
use Rattle.wire_base.specs.Units.{AreUnits}
use Rattle.wire_base.proofs.NumberLaws.{AreBytes-append, AreBytes-nil}
use Rattle.outside.specs.declared.action.Action.{Action}
use Rattle.outside.specs.declared.action.Action.TheVariants as action
use Rattle.outside.specs.declared.action.CloseCause.TheVariants as close
use Rattle.outside.specs.declared.action.DropCause.{DropCause}
use Rattle.outside.specs.declared.action.DropCause.TheVariants as drop_cause
use Rattle.outside.specs.declared.action.StepRefused.{StepRefused}
use Rattle.outside.specs.declared.event.Event.{Event}
use Rattle.outside.specs.Machine.{Part, step_by}
use Rattle.rpc_units.specs.declared.unit.Unit.{Unit as RpcUnit}
use Rattle.rpc_units.specs.Stream.{Cut, cut_stream}
use Rattle.logon_stubs.specs.Ranges.{IsBlock}
use Rattle.end_links.specs.Links.{LinkState}
use Rattle.end_links.specs.Sending.{joined_frames}
use Rattle.end_links.specs.Serving.{ServedPart, served_by}
use Rattle.end_links.proofs.KeepLaws.{served_among}
use Rattle.end_links.proofs.WholeLaws.{cut_bytes}
use Rattle.end_loop.specs.Runs.{actions_of}
use Rattle.channel_client.specs.Machine.{lose_of, needs_challenge, take_of, use_secret_of}
use Rattle.channel_client.specs.State.{Requester}
use Rattle.channel_client.specs.Whole.{InRangeCaller, InRangeRequester, IsWholeNext, IsWholeStart}
use Rattle.channel_client.proofs.WholeLaws.{requesters_send_whole}
use Rattle.member_server.specs.declared.outcomes.Ending.{Ending}
use Rattle.member_server.specs.declared.outcomes.Ending.TheVariants as ending
use Rattle.member_server.specs.declared.plan.MemberPlan.{MemberPlan}
use Rattle.member_server.specs.declared.state.AtLink.{AtLink}
use Rattle.member_server.specs.declared.state.Bound.{Bound}
use Rattle.channel_turns.specs.declared.state.Dialling.{Dialling}
use Rattle.channel_turns.specs.declared.state.Dialling.TheVariants as dialling
use Rattle.member_server.specs.declared.state.Logon.{Logon}
use Rattle.member_server.specs.declared.state.Phase.TheVariants as phase
use Rattle.member_server.specs.declared.state.Running.{Running}
use Rattle.member_server.specs.declared.state.Talk.{Talk}
use Rattle.member_server.specs.declared.state.Work.{Work}
use Rattle.member_server.specs.Machine.{account_of, actions_in, after_units, caller_of, event_part, fresh_link, halted_state, serve_alone, state_in, step_on}
use Rattle.member_server.specs.Outcomes.{after_link, at_link, end_logon, keep_link, phase_after, tell_at, tell_outcome, without_link, without_logon}
use Rattle.channel_turns.specs.declared.state.TurnEnd.{TurnEnd}
use Rattle.channel_turns.specs.declared.state.TurnEnd.TheVariants as turn_end
use Rattle.member_server.specs.Secrets.{SecretsState, changes_text, give_secrets, next_of, secret_for, secrets_after, tried_of, written_secrets}
use Rattle.member_server.specs.Turns.{AtTurn, DialWork, keep_ended, lose_turn, timestamp_of, with_requester}
use Rattle.member_server.specs.Units.{link_server, serve_held}
use Rattle.member_server.specs.Whole.{dialled_link, BringsBytes, AcceptedUnlessStopped, AreChallenges, InRangeBound, InRangeDialling, InRangeEvent, InRangeLink, InRangeLinks, InRangePhase, InRangeRunning, InRangeUnlessStopped, IsAccepted, IsAcceptedAfter, IsSentOn, IsTurnLink, MembersSendWhole, link_of_turn, opened_link}
use Rattle.member_server.specs.Work.{Served}
use Rattle.member_server.proofs.StepFrame.{IsDrawnNext, KeepsEvent, KeepsNext, KeepsTurn, PartHolds, WorkFact, bound_said, dialled_keeps, each_taken, given_channel, part_keeps, taken_at, text_kept, turn_ended}
use Rattle.member_server.proofs.OutcomeView.{EndView, Unknown, Tells, Reaches, end_view}
use Rattle.member_server.proofs.WholeUnits.{AtFits, LinkPartFits, SaidFits, held_fits, told_fits, units_stay}
use Rattle.authenticators.proofs.BlockLaws.{zeros_block}

-- ---- links, each with its number

abbrev pub LinksAre : (ℕ → LinkState Talk → Type 0) → List (ℕ × LinkState Talk) → Type 0
LinksAre Such links = AllByRecursion (λ (entry : ℕ × LinkState Talk). Such entry.0 entry.1) links

module _ (Such : ℕ → LinkState Talk → Type 0) where
  taken_by : (hit : Bool) (entry : ℕ × LinkState Talk) (links rest : List (ℕ × LinkState Talk)) → Such entry.0 entry.1 → LinksAre Such links → LinksAre Such rest →
      LinksAre Such (if hit then links else entry ∷ rest)
  taken_by true entry links rest one all more = all
  taken_by false entry links rest one all more = (one, more)

  taken_are : (number : ℕ) (links : List (ℕ × LinkState Talk)) → LinksAre Such links → LinksAre Such (take_out same_number number links)
  taken_are number [] all = tt
  taken_are number (entry ∷ links) all =
      taken_by (has_key same_number number entry) entry links (take_out same_number number links) all.0 all.1 (taken_are number links all.1)

  put_by : (hit : Bool) (number : ℕ) (link : LinkState Talk) (entry : ℕ × LinkState Talk) (links rest : List (ℕ × LinkState Talk)) → Such number link →
      Such entry.0 entry.1 → LinksAre Such links → LinksAre Such rest → LinksAre Such (if hit then (number, link) ∷ links else entry ∷ rest)
  put_by true number link entry links rest new one all more = (new, all)
  put_by false number link entry links rest new one all more = (one, more)

  put_are : (number : ℕ) (link : LinkState Talk) (links : List (ℕ × LinkState Talk)) → Such number link → LinksAre Such links →
      LinksAre Such (put same_number number link links)
  put_are number link [] new all = (new, tt)
  put_are number link (entry ∷ links) new all =
      put_by (has_key same_number number entry) number link entry links (put same_number number link links) new all.0 all.1 (put_are number link links new all.1)

  there_by : (hit : Bool) (number : ℕ) (entry : ℕ × LinkState Talk) (found : Option (LinkState Talk)) (link : LinkState Talk) → (number == entry.0) ≡ hit →
      Such entry.0 entry.1 → (found ≡ Some link → Such number link) → (if hit then Some entry.1 else found) ≡ Some link → Such number link
  there_by true number entry found link same one later is =
      let own : entry.1 ≡ link = (let z = is in cc) in
      subst (λ (n : ℕ). Such n link) (sym ((Decides-eqb number entry.0).0 same)) (subst (λ (l : LinkState Talk). Such entry.0 l) own one)
  there_by false number entry found link same one later is = later is

  there_are : (number : ℕ) (links : List (ℕ × LinkState Talk)) (link : LinkState Talk) → LinksAre Such links → lookup same_number number links ≡ Some link → Such number link
  there_are number [] link all is = absurd (let z = is in cc)
  there_are number (entry ∷ links) link all is =
      there_by (has_key same_number number entry) number entry (lookup same_number number links) link refl all.0 (there_are number links link all.1) is

are_so : (One Other : ℕ → LinkState Talk → Type 0) → ((number : ℕ) (link : LinkState Talk) → One number link → Other number link) → (links : List (ℕ × LinkState Talk)) →
    LinksAre One links → LinksAre Other links
are_so One Other so [] all = tt
are_so One Other so (entry ∷ links) all = (so entry.0 entry.1 all.0, are_so One Other so links all.1)

-- each entry's number is found
abbrev IsFound : List (ℕ × LinkState Talk) → ℕ → Type 0
IsFound links number = (link : LinkState Talk) × (lookup same_number number links ≡ Some link)

found_more : (hit : Bool) (entry : ℕ × LinkState Talk) (found : Option (LinkState Talk)) → ((link : LinkState Talk) × (found ≡ Some link)) →
    ((link : LinkState Talk) × ((if hit then Some entry.1 else found) ≡ Some link))
found_more true entry found is = (entry.1, refl)
found_more false entry found is = is

found_first : (entry : ℕ × LinkState Talk) (links : List (ℕ × LinkState Talk)) → IsFound (entry ∷ links) entry.0
found_first entry links =
    (entry.1, ap (λ (hit : Bool). if hit then Some entry.1 else lookup same_number entry.0 links) ((Decides-eqb entry.0 entry.0).1 refl))

found_so : (entry : ℕ × LinkState Talk) (all links : List (ℕ × LinkState Talk)) → LinksAre (λ number link. IsFound all number) links →
    LinksAre (λ number link. IsFound (entry ∷ all) number) links
found_so entry all [] are = tt
found_so entry all (one ∷ links) are =
    (found_more (has_key same_number one.0 entry) entry (lookup same_number one.0 all) are.0, found_so entry all links are.1)

all_found : (links : List (ℕ × LinkState Talk)) → LinksAre (λ number link. IsFound links number) links
all_found [] = tt
all_found (entry ∷ links) = (found_first entry links, found_so entry links links (all_found links))

-- a link of the first kind, in its ranges
abbrev LinkFits : (ℕ → Type 0) → ℕ → LinkState Talk → Type 0
LinkFits First number link = First number × InRangeLink link

with_found : (running : Running) (links : List (ℕ × LinkState Talk)) → LinksAre (λ number link. IsAccepted running number) links → InRangeLinks links →
    LinksAre (LinkFits (IsAccepted running)) links
with_found running [] all range = tt
with_found running (entry ∷ links) all range = ((all.0, range.0), with_found running links all.1 range.1)

-- ---- a member at work

pub record WorkFits (First Second : ℕ → Type 0) (w : Work) : Type 0 where
  pub channel : InRangeRequester w.logons.channel
  pub links : LinksAre (LinkFits First) w.links
  pub sends : AllByRecursion (IsSentOn First Second) w.actions

-- links are of a third kind then, to which also the one belongs that was opened in the step: nothing is sent on it
pub record DialWorkFits (First Second Third : ℕ → Type 0) (dial_work : DialWork) : Type 0 where
  pub channel : InRangeRequester dial_work.0.logons.channel
  pub links : LinksAre (LinkFits Third) dial_work.0.links
  pub sends : AllByRecursion (IsSentOn First Second) dial_work.0.actions
  pub how : InRangeDialling dial_work.1

abbrev pub DialWorkPartFits : (ℕ → Type 0) → (ℕ → Type 0) → (ℕ → Type 0) → Result (Part DialWork) StepRefused → Type 0
DialWorkPartFits First Second Third part = PartHolds (λ how w left. DialWorkFits First Second Third (w, how) × AreChallenges left) part

-- work and dial as an event comes
record Comes (First Second : ℕ → Type 0) (what : Event) (how : Dialling) (w : Work) (left : List (List ℕ)) : Type 0 where
  fits : WorkFits First Second w
  range : InRangeDialling how
  own : (on : ℕ) → link_of_turn how what ≡ Some on → Second on
  challenges : AreChallenges left

-- the turn: on a link of the second kind
pub record TurnFits (First Second : ℕ → Type 0) (at : AtTurn) : Type 0 where
  pub own : Second at.link
  pub work : WorkFits First Second at.work

phase_fits : (how : Ending) (logon : Logon) (bound : Bound) → InRangeBound bound → InRangePhase (phase_after how logon bound)
phase_fits (ending.Granted info) logon bound range = range
phase_fits (ending.Refused status) logon bound range = tt
phase_fits (ending.NoController cause) logon bound range = tt

abbrev AreUnlessStopped : (ℕ → Type 0) → Option Running → Type 0
AreUnlessStopped Third None = Unit {0}
AreUnlessStopped Third (Some running) = LinksAre (λ number link. Third number) running.links

module _ (First Second Third : ℕ → Type 0) (early : (number : ℕ) → First number → Third number) where
  dial_work_of : (w : Work) (how : Dialling) → WorkFits First Second w → InRangeDialling how → DialWorkFits First Second Third (w, how)
  dial_work_of w how fits range = record {
    channel = fits.channel;
    links = are_so (LinkFits First) (LinkFits Third) (λ number link is. (early number is.0, is.1)) w.links fits.links;
    sends = fits.sends;
    how = range;
  }

  tell_work : (what : Action) (w : Work) → WorkFits First Second w → IsSentOn First Second what → WorkFits First Second (tell_at w what)
  tell_work what w fits is = record { channel = fits.channel; links = fits.links; sends = told_fits First Second w.actions what fits.sends is }

  without_fits : (number : ℕ) (w : Work) → WorkFits First Second w → WorkFits First Second (without_link number w)
  without_fits number w fits = record { channel = fits.channel; links = taken_are (LinkFits First) number w.links fits.links; sends = fits.sends }

  kept_fits : (talk : Option Talk) (rest : List ℕ) (number : ℕ) (at : AtLink) (w : Work) → First number → AreBytes rest → AtFits First Second at → SaidFits talk →
      LinksAre (LinkFits First) w.links → WorkFits First Second (keep_link talk rest number (after_link at w))
  kept_fits None rest number at w own are fits range all = record { channel = fits.channel; links = all; sends = fits.sends }
  kept_fits (Some talk) rest number at w own are fits range all = record {
    channel = fits.channel;
    links = put_are (LinkFits First) number (record { rest = rest; talk = talk }) w.links (own, record { rest = are; phase = range.0; joiner = range.1 }) all;
    sends = fits.sends;
  }

  -- ---- an outcome

  silent_fits : (place : ℕ) (w : Work) → WorkFits First Second w → WorkFits First Second (without_logon place w)
  silent_fits place w fits = record { channel = fits.channel; links = fits.links; sends = fits.sends }

  ended_fits : (place : ℕ) (how : Ending) (w after : Work) → EndView place how w after → WorkFits First Second w → WorkFits First Second after
  ended_fits place how w after (Unknown none) fits = silent_fits place w fits
  ended_fits place how w after (Tells logon kept) fits = tell_work _ (without_logon place w) (silent_fits place w fits) tt
  ended_fits place how w after (Reaches logon link bound held kept there is) fits =
      let told : Work = tell_outcome how logon (without_logon place w) in
      let tells : WorkFits First Second told = tell_work _ (without_logon place w) (silent_fits place w fits) tt in
      let own : LinkFits First logon.link link = there_are (LinkFits First) logon.link w.links link fits.links there in
      let range : InRangePhase (phase.Asked bound place held) = subst InRangePhase is own.1.phase in
      let at : AtLink = at_link logon.link told in
      let talk : Talk = record { joiner = link.talk.joiner; phase = phase_after how logon bound } in
      let served : Served = serve_held held at talk in
      let serves = held_fits First Second held range.1 at talk (record { own = own.0; channel = fits.channel; sends = tells.sends }) (phase_fits how logon bound range.0) own.1.joiner in
      kept_fits served.1 link.rest logon.link served.0 (without_link logon.link told) own.0 own.1.rest serves.at serves.said (without_fits logon.link told tells).links

  end_fits : (place : ℕ) (how : Ending) (w : Work) → WorkFits First Second w → WorkFits First Second (end_logon place how w)
  end_fits place how w fits = ended_fits place how w (end_logon place how w) (end_view place how w) fits

  -- ---- the link of the turn

  requester_fits : (c : Requester) (w : Work) → WorkFits First Second w → InRangeRequester c → WorkFits First Second (with_requester w c)
  requester_fits c w fits range = record { channel = range; links = fits.links; sends = fits.sends }

  -- the secrets as the turn's end makes them, and their text
  kept_fits_so : (how : TurnEnd) (w : Work) → WorkFits First Second w → WorkFits First Second (keep_ended how w)
  kept_fits_so how w fits =
      let secrets : SecretsState = secrets_after how w.logons.plan.secrets in
      record {
        channel = fits.channel;
        links = fits.links;
        sends = text_kept (changes_text how w.logons.plan.secrets) secrets w.actions (AllByRecursion (IsSentOn First Second)) (λ same. fits.sends)
            (λ another. told_fits First Second w.actions (action.Keep (written_secrets secrets)) fits.sends tt);
      }

  lose_fits : (cause : DropCause) (w : Work) → WorkFits First Second w → WorkFits First Second (lose_turn cause w)
  lose_fits cause w fits =
      let losing = lose_of w.logons.channel in
      let how : TurnEnd = turn_end.Dropped losing.place cause in
      let lost : Work = with_requester w losing.state in
      end_fits losing.place (ending.NoController cause) (keep_ended how lost)
      (kept_fits_so how lost (requester_fits losing.state w fits (requesters_send_whole.lose w.logons.channel fits.channel)))

  taken_fits : (at : AtTurn) (unit : RpcUnit) → WorkFits First Second at.work → WorkFits First Second (taken_at at unit).work
  taken_fits at unit fits =
      requester_fits (take_of at.work.logons.channel unit).state at.work fits (requesters_send_whole.take at.work.logons.channel unit fits.channel).0

  turn_fits : KeepsTurn (λ units at. TurnFits First Second at) (WorkFits First Second)
  turn_fits = record {
    skips = λ right unit units at is fits. record { own = fits.own; work = taken_fits at unit fits.work };
    sends = λ right frames unit units at is fits. record {
      own = fits.own;
      work = tell_work (action.Send at.link (joined_frames frames)) (taken_at at unit).work (taken_fits at unit fits.work)
          (inr (fits.own, subst IsWholeNext is (requesters_send_whole.take at.work.logons.channel unit fits.work.channel).1));
    };
    ends = λ how unit units at is fits.
        let kept : Work = keep_ended how (taken_at at unit).work in
        let closed : Work = tell_at kept (action.Close at.link close.CallDone) in
        let closes : WorkFits First Second closed = tell_work (action.Close at.link close.CallDone) kept (kept_fits_so how (taken_at at unit).work (taken_fits at unit fits.work)) tt in
        turn_ended how closed (WorkFits First Second) (λ none. closes) (λ place ends some. end_fits place ends closed closes);
    breaks = λ cause at fits. lose_fits drop_cause.BadReply (tell_at at.work (action.Close at.link cause)) (tell_work (action.Close at.link cause) at.work fits.work tt);
  }

  -- ---- bytes on an accepted link

  after_fits : (part : ServedPart AtLink Talk) (rest : List ℕ) (number : ℕ) (how : Dialling) (w : Work) → First number → AreBytes rest → LinkPartFits First Second part →
      LinksAre (LinkFits First) w.links → InRangeDialling how → DialWorkPartFits First Second Third (after_units part rest number how w)
  after_fits (Err why) rest number how w own are fits all range = tt
  after_fits (Ok part) rest number how w own are fits all range = (
    dial_work_of (keep_link part.value.1 rest number (after_link part.value.0 w)) how
        (kept_fits part.value.1 rest number part.value.0 w own are fits.0.at fits.0.said all) range,
    fits.1,
  )

  alone_fits : (cut : Cut) (number : ℕ) (talk : Talk) (how : Dialling) (w : Work) (left : List (List ℕ)) → First number → AllByRecursion AreBytes cut.units × AreBytes cut.rest →
      SaidFits (Some talk) → WorkFits First Second w → InRangeDialling how → AreChallenges left → DialWorkPartFits First Second Third (serve_alone cut number talk how w left)
  alone_fits cut number talk how w left own bytes phase_range fits range all =
      after_fits (served_by link_server cut.units cut.refused (at_link number w) talk left) cut.rest number how w own bytes.1
      (served_among link_server AreBytes (LinkPartFits First Second) (units_stay First Second) cut (at_link number w) talk left bytes.0
      (record { at = record { own = own; channel = fits.channel; sends = fits.sends }; said = phase_range }, all))
      fits.links range

  -- ---- an event

  abbrev Fits : WorkFact
  Fits how w left = DialWorkFits First Second Third (w, how) × AreChallenges left

  event_fits : (what : Event) → ((on : ℕ) → opened_link what ≡ Some on → Third on) → BringsBytes what → KeepsEvent what (Comes First Second what) Fits
  event_fits what opened bytes = record {
    still = λ how w left comes. (dial_work_of w how comes.fits comes.range, comes.challenges);
    closes = λ link how w left comes. (dial_work_of (without_link link w) how (without_fits link w comes.fits) comes.range, comes.challenges);
    loses = λ cause how w left lost none comes. (dial_work_of (lose_turn cause w) dialling.Nothing (lose_fits cause w comes.fits) tt, comes.challenges);
    full = λ link how w left is fits. (
      record {
        channel = fits.0.channel;
        links = fits.0.links;
        sends = told_fits First Second w.actions (action.Close link close.TooManyLinks) fits.0.sends tt;
        how = fits.0.how;
      },
      fits.1,
    );
    opens = λ link how w left is fits. (
      record {
        channel = fits.0.channel;
        links = put_are (LinkFits Third) link fresh_link w.links
            (opened link (ap opened_link is), record { rest = AreBytes-nil; phase = tt; joiner = tt }) fits.0.links;
        sends = fits.0.sends;
        how = fits.0.how;
      },
      fits.1,
    );
    answers = λ link turn frames w left is comes. (
      dial_work_of (tell_at (without_link link w) (action.Send link (joined_frames frames))) (dialling.On link bound_said)
          (tell_work (action.Send link (joined_frames frames)) (without_link link w) (without_fits link w comes.fits)
          (inr (comes.own link (ap dialled_link is), comes.range))) tt,
      comes.challenges,
    );
    link = λ number piece link how w left is found comes.
        let own : LinkFits First number link = there_are (LinkFits First) number w.links link comes.fits.links found in
        alone_fits (cut_stream (link.rest ++ piece)) number link.talk how (without_link number w) left own.0
        (cut_bytes (link.rest ++ piece) (AreBytes-append link.rest piece own.1.rest (subst BringsBytes is bytes))) (own.1.phase, own.1.joiner)
        (without_fits number w comes.fits) comes.range comes.challenges;
    turn = λ number piece said w left is comes.
        dialled_keeps (λ units at. TurnFits First Second at) (WorkFits First Second) Fits
        (each_taken (λ units at. TurnFits First Second at) (WorkFits First Second) turn_fits) (cut_stream (said.rest ++ piece)) number said.talk w left
        (λ rest later at fits. (dial_work_of at.work (dialling.On number (record { rest = rest; talk = later })) fits.work tt, comes.challenges))
        (λ w fits. (dial_work_of w dialling.Nothing fits tt, comes.challenges)) (record { own = comes.own number refl; work = comes.fits });
  }

  -- ---- the next turn

  drawn_fits : (needs : Bool) (challenge : List ℕ) (before after : List (List ℕ)) → IsDrawnNext needs challenge before after → AreChallenges before →
      IsBlock 8 challenge × AreChallenges after
  drawn_fits false challenge before after drawn all = (subst (λ (c : List ℕ). IsBlock 8 c) (sym drawn.0) zeros_block, subst AreChallenges (sym drawn.1) all)
  drawn_fits true challenge before after drawn all = subst AreChallenges drawn all

  moment_fits : (now : ℕ) → timestamp_of now < 2 ^ 32
  moment_fits now = mod-lt _ (omega arith)

  given_fits : (secrets : SecretsState) (c : Requester) → InRangeRequester c → InRangeRequester (give_secrets true secrets c)
  given_fits secrets c range =
      let secret : List ℕ = secret_for (needs_challenge c.standing) (tried_of secrets) c.caller.secret in
      requesters_send_whole.set_next (use_secret_of c secret) (next_of secrets) (requesters_send_whole.use_secret c secret range)

  next_fits : (now : ℕ) → KeepsNext now Fits Fits
  next_fits now = record {
    still = λ how w left can fits. fits;
    starts = λ turn frames challenge how w before after can drawn answer fits.
        let drawn_so = drawn_fits (needs_challenge w.logons.channel.standing) challenge before after drawn fits.1 in
        let starts = requesters_send_whole.start (given_channel w) (timestamp_of now) challenge (given_fits w.logons.plan.secrets w.logons.channel fits.0.channel) (moment_fits now) drawn_so.0 in (
          record {
            channel = starts.0;
            links = fits.0.links;
            sends = told_fits First Second w.actions (action.Dial w.logons.plan.controller) fits.0.sends tt;
            how = subst IsWholeStart answer starts.1;
          },
          drawn_so.1,
        );
  }

  part_sends : (part : Result (Part DialWork) StepRefused) (left : List (List ℕ)) → DialWorkPartFits First Second Third part →
      AllByRecursion (IsSentOn First Second) (actions_of (step_by actions_in state_in halted_state left part))
  part_sends (Err why) left fits = tt
  part_sends (Ok part) left fits = fits.0.sends

  part_ranges : (part : Result (Part DialWork) StepRefused) (left : List (List ℕ)) → DialWorkPartFits First Second Third part →
      InRangeUnlessStopped (step_by actions_in state_in halted_state left part).state.running
  part_ranges (Err why) left fits = tt
  part_ranges (Ok part) left fits = record {
    channel = fits.0.channel;
    links = are_so (LinkFits Third) (λ number link. InRangeLink link) (λ number link is. is.1) part.value.0.links fits.0.links;
    dialling = fits.0.how;
  }

  part_accepts : (part : Result (Part DialWork) StepRefused) (left : List (List ℕ)) → DialWorkPartFits First Second Third part →
      AreUnlessStopped Third (step_by actions_in state_in halted_state left part).state.running
  part_accepts (Err why) left fits = tt
  part_accepts (Ok part) left fits = are_so (LinkFits Third) (λ number link. Third number) (λ number link is. is.0) part.value.0.links fits.0.links

-- ---- a step

step_fits : (running : Running) (what : Event) (now : ℕ) (left : List (List ℕ)) → InRangeRunning running → InRangeEvent what left →
    DialWorkPartFits (IsAccepted running) (IsTurnLink running what) (IsAcceptedAfter running what) (event_part running what now left)
step_fits running what now left range comes =
    let First : ℕ → Type 0 = IsAccepted running in
    let Second : ℕ → Type 0 = IsTurnLink running what in
    let Third : ℕ → Type 0 = IsAcceptedAfter running what in
    let early : (number : ℕ) → First number → Third number = λ number is. inl is in
    part_keeps (Comes First Second what) (Fits First Second Third early) (Fits First Second Third early) running what now left
    (event_fits First Second Third early what (λ on is. inr is) comes.bytes) (next_fits First Second Third early now) (record {
      fits = record { channel = range.channel; links = with_found running running.links (all_found running.links) range.links; sends = tt };
      range = range.dialling;
      own = λ on is. is;
      challenges = comes.challenges;
    })

accepted_after : (running : Running) (what : Event) (part : Result (Part DialWork) StepRefused) (left : List (List ℕ)) →
    DialWorkPartFits (IsAccepted running) (IsTurnLink running what) (IsAcceptedAfter running what) part →
    AcceptedUnlessStopped running what (step_by actions_in state_in halted_state left part).state.running
accepted_after running what (Err why) left fits = tt
accepted_after running what (Ok part) left fits =
    part_accepts (IsAccepted running) (IsTurnLink running what) (IsAcceptedAfter running what) (λ number is. inl is) (Ok part) left fits

-- ---- a fresh member

name_units : (text : List ℕ) → All IsNameByte text → AreUnits text
name_units text all place =
    elim (cases_lt place (length text)) [
      | inl within ↦ omega (arith, (All-get_or IsNameByte text place 0 within all).1)
      | inr past ↦ rw (get_or_past text place 0 past) (omega arith)
    ]

caller_fits : (plan : MemberPlan) → IsName plan.computer → InRangeCaller (caller_of plan)
caller_fits plan is = record {
  computer = is.0;
  computer_units = name_units plan.computer is.1;
  account = omega (arith, is.0, length-append plan.computer (0x24 ∷ []));
  account_units = name_units (account_of plan.computer) (All-append IsNameByte plan.computer (0x24 ∷ []) is.1
      (All-from_recursion IsNameByte (0x24 ∷ []) ((omega arith, omega arith), tt)));
  kind = omega arith;
}

-- where `Such` holds of each link, it holds of one that was accepted
pub accepted_such : (Such : ℕ → Type 0) (running : Running) (number : ℕ) → LinksAre (λ n link. Such n) running.links → IsAccepted running number → Such number
accepted_such Such running number all is = there_are (λ n link. Such n) number running.links is.0 all is.1

pub members_send_whole : MembersSendWhole
members_send_whole = record {
  sends = λ s running what now left runs range comes.
      subst (λ (r : Option Running). AllByRecursion (IsSentOn (IsAccepted running) (IsTurnLink running what)) (actions_of (step_on r s what now left))) (sym runs)
      (part_sends (IsAccepted running) (IsTurnLink running what) (IsAcceptedAfter running what) (λ number is. inl is) (event_part running what now left) left (step_fits running what now left range comes));
  keeps = λ s running what now left runs range comes.
      subst (λ (r : Option Running). InRangeUnlessStopped (step_on r s what now left).state.running) (sym runs)
      (part_ranges (IsAccepted running) (IsTurnLink running what) (IsAcceptedAfter running what) (λ number is. inl is) (event_part running what now left) left (step_fits running what now left range comes));
  accepts = λ s running what now left runs range comes.
      subst (λ (r : Option Running). AcceptedUnlessStopped running what (step_on r s what now left).state.running) (sym runs)
      (accepted_after running what (event_part running what now left) left (step_fits running what now left range comes));
  first = λ plan is. record { channel = requesters_send_whole.fresh (caller_of plan) (caller_fits plan is); links = tt; dialling = tt };
}
