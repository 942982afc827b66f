-- The links of a member whose challenge hasn't served: nothing is bound on them, or a CHALLENGE was sent. Only
-- there an AUTHENTICATE is taken, once a link. It serves `calls_carry_their_logon`, `requests_come_first`.
use Rattle.std.proofs.Common.{◌≡◌, ◌≢◌, ℕ, Bool, true, false, List, [], ◌∷◌, ◌++◌, Option, Some, None, Ok, Err, refl, sym, subst, ◌∙◌, if◌then◌else◌}
use Rattle.std.specs.Prelude.{flat_map}
use Rattle.std.proofs.lemmas.Bool.{eqb-true, eqb-false}
use Rattle.wire_base.specs.Maps.{lookup, put, take_out, same_number}
use Rattle.outside.specs.declared.action.DropCause.TheVariants as drop_cause
use Rattle.outside.specs.declared.event.Event.{Event}
use Rattle.outside.specs.declared.event.Event.TheVariants as event
use Rattle.rpc_units.specs.declared.unit.Unit.{Unit as RpcUnit}
use Rattle.rpc_units.specs.Reading.{unit_of}
use Rattle.rpc_units.specs.Stream.{Cut, cut_stream}
use Rattle.end_links.specs.Links.{LinkState}
use Rattle.end_links.specs.Serving.{ServedPart, served_cut, served_units}
use Rattle.end_links.proofs.KeepLaws.{comes_to, unit_served}
use Rattle.channel_client.specs.Machine.{lose_of}
use Rattle.member_server.specs.declared.outcomes.Ending.{Ending}
use Rattle.member_server.specs.declared.outcomes.Ending.TheVariants as ending
use Rattle.member_server.specs.declared.state.AtLink.{AtLink}
use Rattle.member_server.specs.declared.state.Bound.{Bound}
use Rattle.member_server.specs.declared.state.Logon.{Logon}
use Rattle.member_server.specs.declared.state.Phase.{Phase}
use Rattle.member_server.specs.declared.state.Phase.TheVariants as phase
use Rattle.member_server.specs.declared.state.Running.{Running}
use Rattle.member_server.specs.declared.state.Talk.{Talk}
use Rattle.channel_turns.specs.declared.state.TurnTalk.{TurnTalk}
use Rattle.member_server.specs.declared.state.Work.{Work}
use Rattle.member_server.specs.Laws.{is_past}
use Rattle.member_server.specs.Machine.{fresh_link, serve_dialled, step_of, work_of}
use Rattle.member_server.specs.Outcomes.{after_link, at_link, end_logon, keep_link, phase_after, tell_outcome, without_link, without_logon}
use Rattle.member_server.specs.State.{State as MemberState}
use Rattle.member_server.specs.Units.{bound_unit, first_unit, is_fresh, link_server, serve_held, unit_by}
use Rattle.member_server.specs.Work.{Served}
use Rattle.member_server.proofs.LinkView.{BoundView, Closes, Asks, Overflows, Keeps, Joins, Answers, Faults, bound_view, held_keeps}
use Rattle.member_server.proofs.OutcomeView.{EndView, Unknown, Tells, Reaches, end_view}
use Rattle.member_server.proofs.StepFrame.{KeepsEvent, KeepsNext, PartHolds, TakesTurn, WorkFact, dialled_keeps, each_taken, part_keeps, step_keeps, turn_ended}
use Rattle.step_notes.specs.MemberNotes.{LinkAt, is_challenged, link_if, link_units, taken_after, taken_by, taken_link}
use Rattle.step_notes.specs.Served.{talk_after}
use Rattle.step_notes.proofs.Members.LinkBytesLaws.{bytes_hear, units_then}
use Rattle.step_notes.proofs.ServedLaws.{served_noted}

-- ---- how far a link is

-- the fact holds, where the challenge of a link that is so far hasn't served
abbrev pub IfUnserved : Type 0 → Phase → Type 0
IfUnserved X phase.Fresh = X
IfUnserved X (phase.Challenged bound challenge flags) = X
IfUnserved X (phase.Asked bound place held) = Unit {0}
IfUnserved X (phase.In on) = Unit {0}
IfUnserved X (phase.Out bound status) = Unit {0}

-- what holds of how far a link is, where it stays open and its CHALLENGE hasn't served
abbrev pub IfUnservedAfter : (Phase → Type 0) → Option Talk → Type 0
IfUnservedAfter X None = Unit {0}
IfUnservedAfter X (Some talk) = IfUnserved (X talk.phase) talk.phase

abbrev pub IfUnservedPart : (Phase → Type 0) → ServedPart AtLink Talk → Type 0
IfUnservedPart X (Err why) = Unit {0}
IfUnservedPart X (Ok part) = IfUnservedAfter X part.value.1

-- the link is closed, or its challenge has served
abbrev pub HasServed : Option Talk → Type 0
HasServed said = IfUnservedAfter (λ (p : Phase). ⊥) said

pub phase_so : (X Y : Type 0) → (X → Y) → (p : Phase) → IfUnserved X p → IfUnserved Y p
phase_so X Y so phase.Fresh known = so known
phase_so X Y so (phase.Challenged bound challenge flags) known = so known
phase_so X Y so (phase.Asked bound place held) known = tt
phase_so X Y so (phase.In on) known = tt
phase_so X Y so (phase.Out bound status) known = tt

said_so : (X Y : Phase → Type 0) → ((p : Phase) → X p → Y p) → (said : Option Talk) → IfUnservedAfter X said → IfUnservedAfter Y said
said_so X Y so None known = tt
said_so X Y so (Some talk) known = phase_so (X talk.phase) (Y talk.phase) (so talk.phase) talk.phase known

part_so : (X Y : Phase → Type 0) → ((p : Phase) → X p → Y p) → (part : ServedPart AtLink Talk) → IfUnservedPart X part → IfUnservedPart Y part
part_so X Y so (Err why) known = tt
part_so X Y so (Ok part) known = said_so X Y so part.value.1 known

-- of a link whose challenge has served anything holds
pub none_so : (X : Phase → Type 0) (said : Option Talk) → HasServed said → IfUnservedAfter X said
none_so X said known = said_so (λ p. ⊥) X (λ p none. absurd none) said known

-- what holds anyway
phase_known : (X : Type 0) (p : Phase) → X → IfUnserved X p
phase_known X phase.Fresh known = known
phase_known X (phase.Challenged bound challenge flags) known = known
phase_known X (phase.Asked bound place held) known = tt
phase_known X (phase.In on) known = tt
phase_known X (phase.Out bound status) known = tt

said_known : (X : Type 0) (said : Option Talk) → X → IfUnservedAfter (λ p. X) said
said_known X None known = tt
said_known X (Some talk) known = phase_known X talk.phase known

pub part_known : (X : Type 0) (part : ServedPart AtLink Talk) → X → IfUnservedPart (λ p. X) part
part_known X (Err why) known = tt
part_known X (Ok part) known = said_known X part.value.1 known

-- ---- a unit on a link on which something is bound: its challenge has served then

view_serves : {bytes : List ℕ} {joiner : Option RpcUnit} {at : AtLink} {p : Phase} {served : Served} → BoundView bytes joiner at p served → HasServed served.1
view_serves (Closes cause may) = tt
view_serves (Asks message place fit is) = tt
view_serves (Overflows message fit is) = tt
view_serves (Keeps is fits) = tt
view_serves (Joins unit session is joined) = tt
view_serves (Answers unit sent session is) = tt
view_serves (Faults call context) = tt

pub bound_serves : (p : Phase) (bytes : List ℕ) (joiner : Option RpcUnit) (at : AtLink) → HasServed (bound_unit p bytes joiner at).1
bound_serves p bytes joiner at = view_serves (bound_view bytes joiner at p)

-- ---- units that were held

held_serves : (units : List (List ℕ)) (at : AtLink) (talk : Talk) → IfUnserved ⊥ talk.phase → HasServed (serve_held units at talk).1
held_serves units at talk known =
    held_keeps (λ (served : Served). HasServed served.1) (λ bytes at talk known. bound_serves talk.phase bytes talk.joiner at) units at talk known

pub ended_serves : (how : Ending) (logon : Logon) (bound : Bound) → IfUnserved ⊥ (phase_after how logon bound)
ended_serves (ending.Granted info) logon bound = tt
ended_serves (ending.Refused status) logon bound = tt
ended_serves (ending.NoController cause) logon bound = tt

-- ---- the units of a stream

-- What the units of a link come to, by what was taken of them: no AUTHENTICATE; or one, of a link whose challenge
-- hadn't served before and has then.
abbrev pub TakesOne : Type 0 → ℕ → List ℕ → ServedPart AtLink Talk → Type 0
TakesOne X link [] part = IfUnservedPart (λ (p : Phase). X) part
TakesOne X link (one ∷ []) part = (one ≡ link) × X × IfUnservedPart (λ (p : Phase). ⊥) part
TakesOne X link (one ∷ other ∷ more) part = ⊥

-- behind one that was taken none is
behind_take : (X : Type 0) (link one : ℕ) (own : List ℕ) (part : ServedPart AtLink Talk) → one ≡ link → X → TakesOne ⊥ link own part → TakesOne X link (one ∷ own) part
behind_take X link one [] part same known took = (same, known, took)
behind_take X link one (other ∷ []) part same known took = absurd took.1
behind_take X link one (other ∷ another ∷ more) part same known took = absurd took

-- behind a CHALLENGE: the unit may be taken
past_take : (X : Type 0) (link : ℕ) (is_taken : Bool) (at : AtLink) (talk : Talk) (left : List (List ℕ)) → X → IfUnserved ⊥ talk.phase →
    TakesOne X link (link_if is_taken link) (comes_to at (Some talk) left)
past_take X link false at talk left known served = none_so (λ p. X) (Some talk) served
past_take X link true at talk left known served = (refl, known, served)

challenged_take : (X : Type 0) (link : ℕ) (at : AtLink) (said : Option Talk) (left : List (List ℕ)) → X → HasServed said →
    TakesOne X link (taken_after said link) (comes_to at said left)
challenged_take X link at None left known served = tt
challenged_take X link at (Some talk) left known served = past_take X link (is_past talk.phase) at talk left known served

unit_take : (X : Type 0) (w : LinkAt) (p : Phase) (bytes : List ℕ) (joiner : Option RpcUnit) (at : AtLink) (left : List (List ℕ)) → IfUnserved X p →
    TakesOne X w.link (taken_by (is_challenged p) (talk_after (unit_by (is_fresh p) p bytes joiner at left)) w.link) (unit_by (is_fresh p) p bytes joiner at left)
unit_take X w phase.Fresh bytes joiner at left known =
    let part : ServedPart AtLink Talk = first_unit (unit_of bytes) joiner at left in part_known X part known
unit_take X w (phase.Challenged bound challenge flags) bytes joiner at left known =
    let served : Served = bound_unit (phase.Challenged bound challenge flags) bytes joiner at in
    challenged_take X w.link served.0 served.1 left known (bound_serves (phase.Challenged bound challenge flags) bytes joiner at)
unit_take X w (phase.Asked bound place held) bytes joiner at left known = none_so (λ p. X) _ (bound_serves (phase.Asked bound place held) bytes joiner at)
unit_take X w (phase.In on) bytes joiner at left known = none_so (λ p. X) _ (bound_serves (phase.In on) bytes joiner at)
unit_take X w (phase.Out bound status) bytes joiner at left known = none_so (λ p. X) _ (bound_serves (phase.Out bound status) bytes joiner at)

more_take : (X : Type 0) (w : LinkAt) (taken : List ℕ) (bytes : List ℕ) (at : AtLink) (talk : Talk) (left : List (List ℕ)) → TakesOne X w.link taken (comes_to at (Some talk) left) →
    TakesOne X w.link (taken ++ taken_link w (unit_served link_server bytes at talk left)) (link_server.unit bytes at talk left)
more_take X w [] bytes at talk left took = unit_take X w talk.phase bytes talk.joiner at left took
more_take X w (one ∷ []) bytes at talk left took =
    behind_take X w.link one (taken_link w (unit_served link_server bytes at talk left)) (link_server.unit bytes at talk left) took.0 took.1
    (unit_take ⊥ w talk.phase bytes talk.joiner at left took.2)
more_take X w (one ∷ other ∷ more) bytes at talk left took = absurd took

shut_take : (X : Type 0) (link : ℕ) (taken : List ℕ) (at after : AtLink) (talk : Talk) (left : List (List ℕ)) → TakesOne X link taken (comes_to at (Some talk) left) →
    TakesOne X link taken (comes_to after None left)
shut_take X link [] at after talk left took = tt
shut_take X link (one ∷ []) at after talk left took = (took.0, took.1, tt)
shut_take X link (one ∷ other ∷ more) at after talk left took = absurd took

units_take : (w : LinkAt) (cut : Cut) (X : Type 0) (at : AtLink) (talk : Talk) (left : List (List ℕ)) → IfUnserved X talk.phase →
    TakesOne X w.link (flat_map (taken_link w) (served_units link_server cut.units at talk left)) (served_cut link_server cut at talk left)
units_take w cut X at talk left known =
    served_noted link_server (taken_link w) (TakesOne X w.link) (record {
      unit = more_take X w;
      refusal = λ taken why at talk left took. shut_take X w.link taken at _ talk left took;
    }) cut at talk left known

-- ---- the links of a member

-- the fact holds of the number of each link whose challenge hasn't served and of how far it is, and no number comes
-- twice among those
abbrev pub Unserved : (ℕ → Phase → Type 0) → List (ℕ × LinkState Talk) → Type 0
Unserved May [] = Unit {0}
Unserved May (entry ∷ links) = IfUnserved (May entry.0 entry.1.talk.phase) entry.1.talk.phase × Unserved (λ n p. May n p × (n ≢ entry.0)) links

pub links_so : (May Might : ℕ → Phase → Type 0) → ((n : ℕ) (p : Phase) → May n p → Might n p) → (links : List (ℕ × LinkState Talk)) → Unserved May links → Unserved Might links
links_so May Might so [] all = tt
links_so May Might so (entry ∷ links) all = (
  phase_so (May entry.0 entry.1.talk.phase) (Might entry.0 entry.1.talk.phase) (so entry.0 entry.1.talk.phase) entry.1.talk.phase all.0,
  links_so (λ n p. May n p × (n ≢ entry.0)) (λ n p. Might n p × (n ≢ entry.0)) (λ n p known. (so n p known.0, known.1)) links all.1,
)

found_by : (hit : Bool) (May : ℕ → Phase → Type 0) (k : ℕ) (entry : ℕ × LinkState Talk) (links : List (ℕ × LinkState Talk)) (found : Option (LinkState Talk)) (link : LinkState Talk) →
    same_number k entry.0 ≡ hit → (if hit then Some entry.1 else found) ≡ Some link → Unserved May (entry ∷ links) →
    (found ≡ Some link → IfUnserved (May k link.talk.phase × (k ≢ entry.0)) link.talk.phase) → IfUnserved (May k link.talk.phase) link.talk.phase
found_by true May k entry links found link is there all later =
    let here : entry.1 ≡ link = cc in
    subst (λ (one : LinkState Talk). IfUnserved (May k one.talk.phase) one.talk.phase) here
    (subst (λ n. IfUnserved (May n entry.1.talk.phase) entry.1.talk.phase) (sym (eqb-true k entry.0 is)) all.0)
found_by false May k entry links found link is there all later =
    phase_so (May k link.talk.phase × (k ≢ entry.0)) (May k link.talk.phase) (λ both. both.0) link.talk.phase (later there)

pub found_known : (May : ℕ → Phase → Type 0) (k : ℕ) (links : List (ℕ × LinkState Talk)) (link : LinkState Talk) → lookup same_number k links ≡ Some link → Unserved May links →
    IfUnserved (May k link.talk.phase) link.talk.phase
found_known May k [] link there all = absurd cc
found_known May k (entry ∷ links) link there all =
    found_by (same_number k entry.0) May k entry links (lookup same_number k links) link refl there all
    (λ later. found_known (λ n p. May n p × (n ≢ entry.0)) k links link later all.1)

taken_if : (hit : Bool) (May : ℕ → Phase → Type 0) (k : ℕ) (entry : ℕ × LinkState Talk) (links rest : List (ℕ × LinkState Talk)) → same_number k entry.0 ≡ hit →
    Unserved May (entry ∷ links) → Unserved (λ n p. (May n p × (n ≢ entry.0)) × (n ≢ k)) rest → Unserved (λ n p. May n p × (n ≢ k)) (if hit then links else entry ∷ rest)
taken_if true May k entry links rest is all more =
    links_so (λ n p. May n p × (n ≢ entry.0)) (λ n p. May n p × (n ≢ k)) (λ n p known. (known.0, λ same. known.1 (same ∙ eqb-true k entry.0 is))) links all.1
taken_if false May k entry links rest is all more = (
  phase_so (May entry.0 entry.1.talk.phase) (May entry.0 entry.1.talk.phase × (entry.0 ≢ k)) (λ known. (known, λ same. eqb-false k entry.0 is (sym same))) entry.1.talk.phase all.0,
  links_so (λ n p. (May n p × (n ≢ entry.0)) × (n ≢ k)) (λ n p. (May n p × (n ≢ k)) × (n ≢ entry.0)) (λ n p known. ((known.0.0, known.1), known.0.1)) rest more,
)

-- a link that is out of the map is in it no more
pub taken_known : (May : ℕ → Phase → Type 0) (k : ℕ) (links : List (ℕ × LinkState Talk)) → Unserved May links → Unserved (λ n p. May n p × (n ≢ k)) (take_out same_number k links)
taken_known May k [] all = tt
taken_known May k (entry ∷ links) all =
    taken_if (same_number k entry.0) May k entry links (take_out same_number k links) refl all (taken_known (λ n p. May n p × (n ≢ entry.0)) k links all.1)

put_if : (hit : Bool) (May : ℕ → Phase → Type 0) (k : ℕ) (v : LinkState Talk) (entry : ℕ × LinkState Talk) (links rest : List (ℕ × LinkState Talk)) → same_number k entry.0 ≡ hit →
    IfUnserved (May k v.talk.phase) v.talk.phase → Unserved May (entry ∷ links) → (k ≢ entry.0 → Unserved (λ n p. May n p × (n ≢ entry.0)) rest) →
    Unserved May (if hit then (k, v) ∷ links else entry ∷ rest)
put_if true May k v entry links rest is known all more = (
  known,
  links_so (λ n p. May n p × (n ≢ entry.0)) (λ n p. May n p × (n ≢ k)) (λ n p old. (old.0, λ same. old.1 (same ∙ eqb-true k entry.0 is))) links all.1,
)
put_if false May k v entry links rest is known all more = (all.0, more (eqb-false k entry.0 is))

put_known : (May : ℕ → Phase → Type 0) (k : ℕ) (v : LinkState Talk) (links : List (ℕ × LinkState Talk)) → IfUnserved (May k v.talk.phase) v.talk.phase → Unserved May links →
    Unserved May (put same_number k v links)
put_known May k v [] known all = (known, tt)
put_known May k v (entry ∷ links) known all =
    put_if (same_number k entry.0) May k v entry links (put same_number k v links) refl known all
    (λ differs.
    put_known (λ n p. May n p × (n ≢ entry.0)) k v links (phase_so (May k v.talk.phase) (May k v.talk.phase × (k ≢ entry.0)) (λ old. (old, differs)) v.talk.phase known) all.1)

-- ---- what a step leaves

abbrev pub WorkLinks : (ℕ → Phase → Type 0) → WorkFact
WorkLinks May how w left = Unserved May w.links

-- a member that was halted has no links
abbrev pub LinksIn : (ℕ → Phase → Type 0) → Option Running → Type 0
LinksIn May None = Unit {0}
LinksIn May (Some running) = Unserved May running.links

pub in_so : (May Might : ℕ → Phase → Type 0) → ((n : ℕ) (p : Phase) → May n p → Might n p) → (r : Option Running) → LinksIn May r → LinksIn Might r
in_so May Might so None all = tt
in_so May Might so (Some running) all = links_so May Might so running.links all

module _ (May : ℕ → Phase → Type 0) where
  pub fewer_known : (k : ℕ) (links : List (ℕ × LinkState Talk)) → Unserved May links → Unserved May (take_out same_number k links)
  fewer_known k links all = links_so (λ n p. May n p × (n ≢ k)) May (λ n p both. both.0) (take_out same_number k links) (taken_known May k links all)

  pub kept_known : (said : Option Talk) (rest : List ℕ) (number : ℕ) (at : AtLink) (w : Work) → IfUnservedAfter (May number) said → Unserved May w.links →
      Unserved May (keep_link said rest number (after_link at w)).links
  kept_known None rest number at w known all = all
  kept_known (Some talk) rest number at w known all = put_known May number (record { rest = rest; talk = talk }) w.links known all

  -- ---- an outcome

  ended_known : (place : ℕ) (how : Ending) (w after : Work) → EndView place how w after → Unserved May w.links → Unserved May after.links
  ended_known place how w after (Unknown none) all = all
  ended_known place how w after (Tells logon kept) all = all
  ended_known place how w after (Reaches logon link bound held kept there is) all =
      let alone : Work = without_link logon.link (tell_outcome how logon (without_logon place w)) in
      let at : AtLink = at_link logon.link alone in
      let talk : Talk = record { joiner = link.talk.joiner; phase = phase_after how logon bound } in
      let served : Served = serve_held held at talk in
      kept_known served.1 link.rest logon.link served.0 alone (none_so (May logon.link) served.1 (held_serves held at talk (ended_serves how logon bound)))
      (fewer_known logon.link w.links all)

  end_known : (place : ℕ) (how : Ending) (w : Work) → Unserved May w.links → Unserved May (end_logon place how w).links
  end_known place how w all = ended_known place how w (end_logon place how w) (end_view place how w) all

  -- ---- the turn

  turn_known : TakesTurn (λ units at. Unserved May at.work.links) (λ w. Unserved May w.links)
  turn_known = each_taken (λ units at. Unserved May at.work.links) (λ w. Unserved May w.links) (record {
    skips = λ right unit units at is all. all;
    sends = λ right frames unit units at is all. all;
    ends = λ how unit units at is all. turn_ended how _ (λ w. Unserved May w.links) (λ none. all) (λ place ends some. end_known place ends _ all);
    breaks = λ cause at all. end_known (lose_of at.work.logons.channel).place (ending.NoController drop_cause.BadReply) _ all;
  })

  pub dialled_known : (cut : Cut) (number : ℕ) (talk : TurnTalk) (w : Work) (left : List (List ℕ)) → Unserved May w.links → PartHolds (WorkLinks May) (serve_dialled cut number talk w left)
  dialled_known cut number talk w left all =
      dialled_keeps (λ units at. Unserved May at.work.links) (λ w. Unserved May w.links) (WorkLinks May) turn_known cut number talk w left (λ rest later at all. all) (λ w all. all) all

  -- the next turn leaves the links
  pub next_known : (now : ℕ) → KeepsNext now (WorkLinks May) (WorkLinks May)
  next_known now = record { still = λ how w left can all. all; starts = λ turn frames challenge how w before after can drawn is all. all }

-- What holds of the links by what was taken: no AUTHENTICATE; or one, on a link whose challenge hadn't served, and then
-- it has.
abbrev pub Took : (ℕ → Type 0) → List ℕ → ((ℕ → Type 0) → Type 0) → Type 0
Took May [] After = After May
Took May (one ∷ []) After = May one × After (λ n. May n × (n ≢ one))
Took May (one ∷ other ∷ more) After = ⊥

alone_took : (May : ℕ → Type 0) (links : List ℕ) (at : AtLink) (said : Option Talk) (left : List (List ℕ)) (rest : List ℕ) (number : ℕ) (w : Work) →
    TakesOne (May number) number links (comes_to at said left) → Unserved (λ n p. May n × (n ≢ number)) w.links →
    Took May links (λ Might. Unserved (λ n p. Might n) (keep_link said rest number (after_link at w)).links)
alone_took May [] at said left rest number w took all =
    kept_known (λ n p. May n) said rest number at w took (links_so (λ n p. May n × (n ≢ number)) (λ n p. May n) (λ n p both. both.0) w.links all)
alone_took May (one ∷ []) at said left rest number w took all = (
  subst May (sym took.0) took.1,
  kept_known (λ n p. May n × (n ≢ one)) said rest number at w (said_so (λ p. ⊥) (λ p. May number × (number ≢ one)) (λ p none. absurd none) said took.2)
      (links_so (λ n p. May n × (n ≢ number)) (λ n p. May n × (n ≢ one)) (λ n p both. (both.0, λ same. both.1 (same ∙ took.0))) w.links all),
)
alone_took May (one ∷ other ∷ more) at said left rest number w took all = absurd took

-- ---- a step

-- of the units that a member serves on an accepted link at a step, one is an AUTHENTICATE that it takes, at most
pub bytes_took : (May : ℕ → Type 0) (w : LinkAt) (m : MemberState) (piece : List ℕ) (now : ℕ) (left : List (List ℕ)) → LinksIn (λ n p. May n) m.running →
    Took May (flat_map (taken_link w) (link_units m w.link piece now left)) (λ Might. LinksIn (λ n p. Might n) (step_of m (event.Bytes w.link piece) now left).state.running)
bytes_took May w m piece now left all =
    let Links : Option Running → Type 0 = λ r. LinksIn (λ n p. May n) r in
    bytes_hear w.link piece now left m (λ units how work rest. Took May (flat_map (taken_link w) units) (λ Might. Unserved (λ n p. Might n) work.links))
    (λ units stepped. Took May (flat_map (taken_link w) units) (λ Might. LinksIn (λ n p. Might n) stepped.state.running)) (record {
      stopped = all;
      spent = tt;
      nowhere = λ running runs. subst Links runs all;
      on_link = λ running link how runs is there.
          let cut : Cut = cut_stream (link.rest ++ piece) in
          let at : AtLink = at_link w.link (work_of running) in
          let part : ServedPart AtLink Talk = served_cut link_server cut at link.talk left in
          let links : List ℕ = flat_map (taken_link w) (served_units link_server cut.units at link.talk left) in
          let known : Unserved (λ n p. May n) running.links = subst Links runs all in
          units_then (λ how work rest. Took May links (λ Might. Unserved (λ n p. Might n) work.links)) part cut.rest w.link how (without_link w.link (work_of running))
          (λ after said rest is.
          alone_took May links after said rest cut.rest w.link (without_link w.link (work_of running))
          (subst (TakesOne (May w.link) w.link links) is (units_take w cut (May w.link) at link.talk left (found_known (λ n p. May n) w.link running.links link there known)))
          (taken_known (λ n p. May n) w.link running.links known));
      on_turn = λ running said runs is.
          dialled_known (λ n p. May n) (cut_stream (said.rest ++ piece)) w.link said.talk (work_of running) left (subst Links runs all);
      next = λ units. record { still = λ how w left can took. took; starts = λ turn frames challenge how w before after can drawn is took. took };
    })

-- what held of the links holds on, whatever was taken
pub took_known : (May : ℕ → Type 0) (links : List ℕ) (r : Option Running) → Took May links (λ Might. LinksIn (λ n p. Might n) r) → LinksIn (λ n p. May n) r
took_known May [] r took = took
took_known May (one ∷ []) r took = in_so (λ n p. May n × (n ≢ one)) (λ n p. May n) (λ n p both. both.0) r took.1
took_known May (one ∷ other ∷ more) r took = absurd took

-- what must be known of a link that opens; no bytes come
abbrev pub Opens : Event → (ℕ → Phase → Type 0) → Type 0
Opens (event.Opened link) May = May link phase.Fresh
Opens (event.Bytes link piece) May = ⊥
Opens _ May = Unit {0}

event_known : (May : ℕ → Phase → Type 0) (what : Event) → Opens what May → KeepsEvent what (WorkLinks May) (WorkLinks May)
event_known May what new = record {
  still = λ how w left all. all;
  closes = λ link how w left all. fewer_known May link w.links all;
  loses = λ cause how w left lost none all. end_known May (lose_of w.logons.channel).place (ending.NoController cause) _ all;
  full = λ link how w left is all. all;
  opens = λ link how w left is all. put_known May link fresh_link w.links (subst (λ (e : Event). Opens e May) is new) all;
  answers = λ link turn frames w left is all. fewer_known May link w.links all;
  link = λ number piece link how w left is there all. absurd (subst (λ (e : Event). Opens e May) is new);
  turn = λ number piece said w left is all. absurd (subst (λ (e : Event). Opens e May) is new);
}

-- no step at which no bytes come makes a challenge that has served one that hasn't
pub step_known : (May : ℕ → Phase → Type 0) (what : Event) (m : MemberState) (now : ℕ) (left : List (List ℕ)) → Opens what May → LinksIn May m.running →
    LinksIn May (step_of m what now left).state.running
step_known May what m now left new all =
    step_keeps (LinksIn May) what now left m tt all (λ running runs.
    part_keeps (WorkLinks May) (WorkLinks May) (WorkLinks May) running what now left (event_known May what new) (next_known May now) (subst (LinksIn May) runs all))
