-- In every run a controller keeps the sessions that the calls left which it judged since its last start.
-- It serves `Proved.sessions` and `Proved.let_on`.
use Rattle.std.proofs.Common.{◌≡◌, ℕ, ◌+◌, ◌≤◌, ◌==◌, ◌&&◌, nat_le, Bool, true, false, List, [], ◌∷◌, ◌++◌, length, Option, Some, None, refl, sym, ap, ap₂, subst, ◌∙◌, arith, slice_get, slice_set}
use Rattle.std.specs.List.{AllByRecursion}
use Rattle.std.proofs.lemmas.Bool.{eq-eqb, ne_eqb, le-leb, lt-leb}
use Rattle.outside.specs.declared.event.Event.{Event}
use Rattle.outside.specs.declared.event.Event.TheVariants as event
use Rattle.authenticators.specs.SecureChannels.{SecureChannelState}
use Rattle.interactive_logon.specs.declared.sessions.Session.{Session}
use Rattle.domain_controller.specs.State.{State as ControllerState}
use Rattle.domain_controller.specs.TrustStep.{trust_step_of as step_of}
use Rattle.domain_controller.specs.declared.state.Running.{Running}
use Rattle.outside.specs.Drawing.{Drawing}
use Rattle.step_notes.specs.ControllerNotes.{Answered, Where, has_passed}
use Rattle.step_notes.specs.Records.{Book, Judging, blank}
use Rattle.world_moves.specs.declared.links.EndId.{EndId}
use Rattle.world_moves.specs.declared.links.EndId.TheVariants.{Controller, Member, Client, Station}
use Rattle.world_moves.specs.declared.moves.Move.{Move}
use Rattle.world_moves.specs.declared.moves.Move.TheVariants as move
use Rattle.world_moves.specs.declared.plan.Plan.{Plan}
use Rattle.world_moves.specs.declared.state.State.{State}
use Rattle.world_moves.specs.Acting.{forget}
use Rattle.world_moves.specs.Choosing.{chosen_place}
use Rattle.world_moves.specs.Ends.{EndStates, EndStep, count_of, fresh_controller, renew_client, renew_controller}
use Rattle.world_moves.specs.Links.{acceptor_of}
use Rattle.world_moves.specs.Moving.{act, renewed, restart_at, restart_by}
use Rattle.world_moves.specs.World.{World, first_world, happens, run}
use Rattle.logon_client.specs.declared.plan.ClientPlan.{ClientPlan}
use Rattle.member_server.specs.declared.plan.MemberPlan.{MemberPlan}
use Rattle.domain_world.specs.Claims.Sessions.{AreBySince, ControllerRenewed, end_by, is_since, last_start, renewal_by, renewals, restart_of, sessions_behind, sessions_if, sessions_on, sessions_since, since_if, start_before, start_if}
use Rattle.domain_world.specs.Past.{Delivery, answers_of, at_controller, book, judged_of, later_of, note, note_at, note_coming, note_controller, number_sent, numbers_on, onto, past, with_reply}
use Rattle.wire_base.proofs.ListLaws.{all_weaker, no_some}
use Rattle.domain_world.proofs.Messages.MessageOnceLaws.{each_put}
use Rattle.domain_world.proofs.Frames.AloneStepLaws.{fresh_by}
use Rattle.domain_world.proofs.Frames.EndFrameLaws.{EndFact, KeepsCalmEndsBy, ends_through}
use Rattle.domain_world.proofs.Frames.EndNoteLaws.{judged_so}
use Rattle.domain_world.proofs.Frames.EveryStepLaws.{act_plain as hear_and_act, every_noted as noted_by}
use Rattle.domain_world.proofs.Frames.MoveFrameLaws.{placed_next}
use Rattle.domain_world.proofs.Frames.MoveKeepLaws.{every}
use Rattle.domain_world.proofs.Frames.EventLaws.{calm_no_bytes}
use Rattle.domain_world.proofs.Moves.NoBytesLaws.{IsNoBytes}
use Rattle.domain_world.proofs.Moves.PlacedLaws.{IsPlaced, placed_first}
use Rattle.domain_world.proofs.Moves.TrustNoBytesLaws.{KeepsUnlessEnded, hears_no_call}
use Rattle.domain_world.proofs.Judgements.Openings.OpeningRunLaws.{each_fresh}
use Rattle.domain_world.proofs.Judgements.ChainLaws.{AreChained, IsBy, left_behind, left_of}
use Rattle.domain_world.proofs.Judgements.SessionStepLaws.{RunningChains, RunsWith, kept_sessions, step_chains}
use Rattle.world_moves.proofs.ChangeLaws.{by_change}
use Rattle.world_moves.specs.Plain.{IsPlain, IsPlainPlan, plain_end_step as end_step, renew_plain_member as renew_member, renewed_plain}
use Rattle.world_moves.proofs.PlainKindLaws.{plain_by as step_by}
use Rattle.world_moves.proofs.PlainLaws.{first_plain, moved_plain, renews_plainly, world_plain}
use Rattle.outside.specs.declared.action.Action.{Action}

-- ---- since when

abbrev Starts : ℕ → List ControllerRenewed → Type 0
Starts at starts = AllByRecursion (λ (one : ControllerRenewed). one.moves ≤ at) starts

start_same : (own before : Bool) (moves one other : ℕ) → before ≡ true → one ≡ other → start_if (own && before) moves one ≡ start_if own moves other
start_same true true moves one other is same = refl
start_same false true moves one other is same = same
start_same true false moves one other is same = absurd (let never : false ≡ true = is in cc)
start_same false false moves one other is same = absurd (let never : false ≡ true = is in cc)

-- a start that came later doesn't count
start_later : (own before : Bool) (moves start : ℕ) → before ≡ false → start_if (own && before) moves start ≡ start
start_later true false moves start is = refl
start_later false false moves start is = refl
start_later true true moves start is = absurd (let never : true ≡ false = is in cc)
start_later false true moves start is = absurd (let never : true ≡ false = is in cc)

-- where all came so early, the last one before is the last
before_last : (controller at : ℕ) (starts : List ControllerRenewed) → Starts at starts → start_before controller at starts ≡ last_start controller starts
before_last controller at [] early = refl
before_last controller at (one ∷ starts) early =
    start_same (one.controller == controller) (nat_le one.moves at) one.moves (start_before controller at starts) (last_start controller starts) (le-leb one.moves at early.0)
    (before_last controller at starts early.1)

one_early : (own : Bool) (moves start at : ℕ) → moves ≤ at → start ≤ at → start_if own moves start ≤ at
one_early true moves start at one more = one
one_early false moves start at one more = more

last_early : (controller at : ℕ) (starts : List ControllerRenewed) → Starts at starts → last_start controller starts ≤ at
last_early controller at [] early = omega arith
last_early controller at (one ∷ starts) early =
    one_early (one.controller == controller) one.moves (last_start controller starts) at early.0 (last_early controller at starts early.1)

start_own : (own : Bool) (moves start : ℕ) → own ≡ true → start_if own moves start ≡ moves
start_own true moves start is = refl
start_own false moves start is = absurd (let never : false ≡ true = is in cc)

start_other : (own : Bool) (moves start : ℕ) → own ≡ false → start_if own moves start ≡ start
start_other false moves start is = refl
start_other true moves start is = absurd (let never : true ≡ false = is in cc)

-- ---- a call more

since_own : (own : Bool) (j : Judging) (before : List Session) → own ≡ true → since_if own j before ≡ sessions_behind j
since_own true j before is = refl
since_own false j before is = absurd (let never : false ≡ true = is in cc)

since_other : (own : Bool) (j : Judging) (before : List Session) → own ≡ false → since_if own j before ≡ before
since_other false j before is = refl
since_other true j before is = absurd (let never : true ≡ false = is in cc)

and_true : (one other : Bool) → one ≡ true → other ≡ true → (one && other) ≡ true
and_true true other is also = also
and_true false other is also = absurd (let never : false ≡ true = is in cc)

and_first : (one other : Bool) → one ≡ false → (one && other) ≡ false
and_first false other is = refl
and_first true other is = absurd (let never : true ≡ false = is in cc)

and_second : (one other : Bool) → other ≡ false → (one && other) ≡ false
and_second false other is = refl
and_second true other is = is

-- what a call leaves doesn't depend on which unit carries its reply
on_alike : (checks : Option SecureChannelState) (j : Judging) (number : Option ℕ) → sessions_on checks (record j { reply = number }) ≡ sessions_on checks j
on_alike None j number = refl
on_alike (Some channel) j number = refl

left_alike : (passed : Bool) (j : Judging) (number : Option ℕ) → sessions_if passed (record j { reply = number }) ≡ sessions_if passed j
left_alike false j number = refl
left_alike true j number = on_alike j.checks j number

-- ---- what a step of a controller brings

abbrev AreMade : ℕ → List Judging → Type 0
AreMade at judgings = AllByRecursion (λ (j : Judging). j.at ≤ at) judgings

-- by the calls before it and behind it, for the sessions behind it
record Brings (starts : List ControllerRenewed) (w : Where) (old now : List Judging) (after : List Session) : Type 0 where
  judged : AreBySince starts now
  own : after ≡ sessions_since w.controller (last_start w.controller starts) now
  others : (other start : ℕ) → (w.controller == other) ≡ false → sessions_since other start now ≡ sessions_since other start old
  made : AreMade w.at now

module _ (starts : List ControllerRenewed) (w : Where) (early : Starts w.at starts) where
  abbrev Since : List Judging → List Session
  Since judgings = sessions_since w.controller (last_start w.controller starts) judgings

  -- a call of this controller, by the sessions before it
  own_call : (j : Judging) (old : List Judging) (sessions : List Session) → IsBy kept_sessions w sessions (Some j) → sessions ≡ Since old →
      j.sessions ≡ sessions_since j.controller (start_before j.controller j.at starts) old
  own_call j old sessions by own =
      by.by ∙ own ∙ ap (λ (start : ℕ). sessions_since w.controller start old) (sym (before_last w.controller w.at starts early))
      ∙ ap₂ (λ (k at : ℕ). sessions_since k (start_before k at starts) old) (sym by.controller) (sym by.at)

  own_more : (j : Judging) (old : List Judging) (sessions : List Session) → IsBy kept_sessions w sessions (Some j) → sessions_behind j ≡ Since (j ∷ old)
  own_more j old sessions by =
      sym (since_own (is_since w.controller (last_start w.controller starts) j) j (Since old)
      (and_true (j.controller == w.controller) (nat_le (last_start w.controller starts) j.at) (eq-eqb j.controller w.controller by.controller)
      (le-leb (last_start w.controller starts) j.at (subst (λ (at : ℕ). last_start w.controller starts ≤ at) (sym by.at) (last_early w.controller w.at starts early)))))

  one_brings : (found : Option Judging) (number : Option ℕ) (later old : List Judging) (sessions after : List Session) → IsBy kept_sessions w sessions found → AreBySince starts old → sessions ≡ Since old →
      AreMade w.at old →
      ((now : List Judging) → AreBySince starts now → left_of kept_sessions sessions found ≡ Since now → AreMade w.at now → Brings starts w now (onto later now) after) →
      Brings starts w old (onto (with_reply found number ++ later) old) after
  one_brings None number later old sessions after by all own made next = next old all own made
  one_brings (Some j) number later old sessions after by all own made next =
      let one : Judging = record j { reply = number } in
      let its : IsBy kept_sessions w sessions (Some one) = record { controller = by.controller; at = by.at; by = by.by } in
      let more : Brings starts w (one ∷ old) (onto later (one ∷ old)) after =
      next (one ∷ old) (own_call one old sessions its own, all)
      (sym (left_alike (has_passed j.how) j number) ∙ own_more one old sessions its)
      (subst (λ (at : ℕ). at ≤ w.at) (sym by.at) (omega arith), made) in
      record {
        judged = more.judged;
        own = more.own;
        others = λ other start differs.
            more.others other start differs
            ∙ since_other (is_since other start one) one (sessions_since other start old)
            (and_first (one.controller == other) (nat_le start one.at) (ap (λ (k : ℕ). k == other) by.controller ∙ differs));
        made = more.made;
      }

  answers_bring : (answers : List Answered) (numbers : List ℕ) (old : List Judging) (sessions : List Session) → AreChained kept_sessions w sessions answers → AreBySince starts old → sessions ≡ Since old →
      AreMade w.at old → Brings starts w old (onto (judged_of answers numbers) old) (left_behind kept_sessions sessions answers)
  answers_bring [] numbers old sessions chained all own made = record { judged = all; own = own; others = λ other start differs. refl; made = made }
  answers_bring (one ∷ answers) numbers old sessions chained all own made =
      one_brings one.judging (number_sent one.sends numbers) (judged_of answers (later_of one.sends numbers)) old sessions (left_behind kept_sessions (left_of kept_sessions sessions one.judging) answers) chained.0 all own made
      (λ now each its so. answers_bring answers (later_of one.sends numbers) now (left_of kept_sessions sessions one.judging) chained.1 each its so)

-- ---- all controllers

-- What was judged, and each controller as it stands, after `at` moves.
record Stand (starts : List ControllerRenewed) (at : ℕ) (judgings : List Judging) (controllers : List ControllerState) : Type 0 where
  judged : AreBySince starts judgings
  each : (k : ℕ) (c : ControllerState) → slice_get controllers k ≡ Some c → RunsWith (sessions_since k (last_start k starts) judgings) c.running
  made : AreMade at judgings
  early : Starts at starts

runs_same : (running : Option Running) (one other : List Session) → one ≡ other → RunsWith one running → RunsWith other running
runs_same None one other same runs = tt
runs_same (Some running) one other same runs = runs ∙ same

-- sessions are kept where what is kept of computers is the same
runs_kept : (new old : Option Running) (sessions : List Session) → KeepsUnlessEnded new old → RunsWith sessions old → RunsWith sessions new
runs_kept None old sessions same runs = tt
runs_kept (Some after) None sessions same runs = absurd same
runs_kept (Some after) (Some before) sessions same runs = ap (λ computers. computers.sessions) same ∙ runs

-- a controller heard bytes
record Comes (starts : List ControllerRenewed) (w : Where) (old now : List Judging) (after : Option Running) : Type 0 where
  judged : AreBySince starts now
  own : RunsWith (sessions_since w.controller (last_start w.controller starts) now) after
  others : (other start : ℕ) → (w.controller == other) ≡ false → sessions_since other start now ≡ sessions_since other start old
  made : AreMade w.at now

running_comes : (running : Option Running) (starts : List ControllerRenewed) (w : Where) (answers : List Answered) (numbers : List ℕ) (old : List Judging) (after : Option Running) → Starts w.at starts →
    RunningChains w running answers after → AreBySince starts old → RunsWith (sessions_since w.controller (last_start w.controller starts) old) running → AreMade w.at old →
    Comes starts w old (onto (judged_of answers numbers) old) after
running_comes None starts w answers numbers old after early chains all runs made =
    subst (λ (all : List Answered). Comes starts w old (onto (judged_of all numbers) old) after) (sym chains.0)
    (record {
      judged = all;
      own = subst (λ (r : Option Running). RunsWith (sessions_since w.controller (last_start w.controller starts) old) r) (sym chains.1) tt;
      others = λ other start differs. refl;
      made = made;
    })
running_comes (Some running) starts w answers numbers old after early chains all runs made =
    let brings : Brings starts w old (onto (judged_of answers numbers) old) (left_behind kept_sessions running.computers.sessions answers) =
    answers_bring starts w early answers numbers old running.computers.sessions chains.chained all runs made in
    record {
      judged = brings.judged;
      own = runs_same after (left_behind kept_sessions running.computers.sessions answers) _ brings.own chains.runs;
      others = brings.others;
      made = brings.made;
    }

controller_comes : (c : ControllerState) (starts : List ControllerRenewed) (k : ℕ) (w : Delivery) (piece : List ℕ) (s after : State) (b : Book) → slice_get s.ends.controllers k ≡ Some c →
    Stand starts w.at b.judged s.ends.controllers →
    Stand starts w.at (note_controller (Some c) k w piece s after b).judged (slice_set s.ends.controllers k (step_of c (event.Bytes w.link piece) s.moment s.chances.left).state)
controller_comes c starts k w piece s after b is stands =
    let here : Where = at_controller k c w s in
    let new : ControllerState = (step_of c (event.Bytes w.link piece) s.moment s.chances.left).state in
    let now : List Judging = (note_controller (Some c) k w piece s after b).judged in
    let comes : Comes starts here b.judged now new.running =
    running_comes c.running starts here (answers_of k c w piece s) (numbers_on w.link true s.bag after.bag) b.judged new.running stands.early (step_chains k c w piece s) stands.judged
    (stands.each k c is) stands.made in
    record {
      judged = comes.judged;
      each = each_put (λ (n : ℕ) (x : ControllerState). RunsWith (sessions_since n (last_start n starts) now) x.running) s.ends.controllers k new
          (λ n x differs there.
          runs_same x.running (sessions_since n (last_start n starts) b.judged) (sessions_since n (last_start n starts) now)
          (sym (comes.others n (last_start n starts) (ne_eqb k n (λ same. differs (sym same))))) (stands.each n x there))
          comes.own;
      made = comes.made;
      early = stands.early;
    }

-- a controller keeps what it kept
same_put : (starts : List ControllerRenewed) (at : ℕ) (judgings : List Judging) (controllers : List ControllerState) (k : ℕ) (c new : ControllerState) → slice_get controllers k ≡ Some c →
    KeepsUnlessEnded new.running c.running → Stand starts at judgings controllers → Stand starts at judgings (slice_set controllers k new)
same_put starts at judgings controllers k c new there same stands = record {
  judged = stands.judged;
  each = each_put (λ (n : ℕ) (x : ControllerState). RunsWith (sessions_since n (last_start n starts) judgings) x.running) controllers k new (λ n x differs its. stands.each n x its)
      (runs_kept new.running c.running (sessions_since k (last_start k starts) judgings) same (stands.each k c there));
  made = stands.made;
  early = stands.early;
}

-- ---- through a move at which no end is made anew

hear_stands : (starts : List ControllerRenewed) (at : ℕ) (judgings : List Judging) (end : EndId) (what : Event) (now : ℕ) (ends : EndStates) (chances : Drawing) → IsNoBytes what →
    Stand starts at judgings ends.controllers → Stand starts at judgings (end_step end what now ends chances).ends.controllers
hear_stands starts at judgings end what now ends chances none stands =
    step_by (λ (one : EndId) (step : EndStep). Stand starts at judgings step.ends.controllers) what now ends chances (λ one. stands)
    (λ k c is. same_put starts at judgings ends.controllers k c (step_of c what now chances.left).state is (hears_no_call c what now chances.left none).keeps stands)
    (λ k m is. stands) (λ k c is. stands) end

bytes_stand : (starts : List ControllerRenewed) (end : EndId) (w : Delivery) (piece : List ℕ) (s after : State) (b : Book) → Stand starts w.at b.judged s.ends.controllers →
    Stand starts w.at (note_at (Some end) w piece s after b).judged (end_step end (event.Bytes w.link piece) s.moment s.ends s.chances).ends.controllers
bytes_stand starts end w piece s after b stands =
    noted_by (λ (one : EndId) (step : EndStep) (now : Book). Stand starts w.at now.judged step.ends.controllers) w piece s after b (λ one. stands)
    (λ k c is. controller_comes c starts k w piece s after b is stands)
    (λ k m is. subst (λ (judgings : List Judging). Stand starts w.at judgings s.ends.controllers) (sym (judged_so.members m k w piece s after b)) stands)
    (λ k c is. stands) end

later_stands : (starts : List ControllerRenewed) (at : ℕ) (judgings : List Judging) (controllers : List ControllerState) → Stand starts at judgings controllers → Stand starts (at + 1) judgings controllers
later_stands starts at judgings controllers stands = record {
  judged = stands.judged;
  each = stands.each;
  made = all_weaker (λ (j : Judging). j.at ≤ at) (λ (j : Judging). j.at ≤ at + 1) judgings (λ j made. omega (arith, made)) stands.made;
  early = all_weaker (λ (one : ControllerRenewed). one.moves ≤ at) (λ (one : ControllerRenewed). one.moves ≤ at + 1) starts (λ one early. omega (arith, early)) stands.early;
}

abbrev SessionsHold : List ControllerRenewed → EndFact
SessionsHold starts at on ends given b = Stand starts at b.judged ends.ends.controllers

stands_on : (starts : List ControllerRenewed) → KeepsCalmEndsBy every (SessionsHold starts)
stands_on starts = record {
  calm = λ at on end what s given b calm stands. hear_stands starts at b.judged end what s.moment s.ends s.chances (calm_no_bytes what calm) stands;
  dialled = λ at end link s given b side stands. hear_stands starts at b.judged end (event.Dialled link) s.moment s.ends s.chances tt stands;
  opens = λ at route s given b stands. hear_stands starts at b.judged (acceptor_of route) (event.Opened (length s.links)) s.moment s.ends s.chances tt stands;
  begins = λ at client plan s b is stands. stands;
  comes = λ end w piece s given b side came stands. bytes_stand starts end w piece s (hear_and_act end (event.Bytes w.link piece) s).state b stands;
  changes = λ at member secret s b stands.
      by_change (λ (ends : EndStates) (actions : List Action). Stand starts at b.judged ends.controllers) member secret s.ends stands (λ running is none. stands);
  over = λ at on next s given b stands. later_stands starts at b.judged s.ends.controllers stands;
}

-- ---- a controller is made anew

module _ (at : ℕ) (starts : List ControllerRenewed) (judgings : List Judging) where
  -- a controller that was made anew judged nothing since
  none_since : (k : ℕ) (js : List Judging) → AreMade at js → sessions_since k (at + 1) js ≡ []
  none_since k [] made = refl
  none_since k (j ∷ js) made =
      since_other (is_since k (at + 1) j) j (sessions_since k (at + 1) js)
      (and_second (j.controller == k) (nat_le (at + 1) j.at) (lt-leb (at + 1) j.at (omega (arith, made.0))))
      ∙ none_since k js made.1

  -- earlier calls were judged by the sessions since earlier starts
  judged_later : (one : ControllerRenewed) (js : List Judging) → one.moves ≡ at + 1 → AreMade at js → AreBySince starts js → AreBySince (one ∷ starts) js
  judged_later one [] is made all = tt
  judged_later one (j ∷ js) is made all = (
    all.0 ∙ ap (λ (start : ℕ). sessions_since j.controller start js)
        (sym (start_later (one.controller == j.controller) (nat_le one.moves j.at) one.moves (start_before j.controller j.at starts) (lt-leb one.moves j.at (omega (arith, is, made.0))))),
    judged_later one js is made.1 all.1,
  )

  abbrev renewal : ℕ → ControllerRenewed
  renewal k = record { moves = at + 1; controller = k }

  -- another controller keeps the sessions that it kept
  other_kept : (k n : ℕ) (running : Option Running) → (k == n) ≡ false → RunsWith (sessions_since n (last_start n starts) judgings) running →
      RunsWith (sessions_since n (last_start n (renewal k ∷ starts)) judgings) running
  other_kept k n running differs runs =
      runs_same running (sessions_since n (last_start n starts) judgings) (sessions_since n (last_start n (renewal k ∷ starts)) judgings)
      (ap (λ (start : ℕ). sessions_since n start judgings) (sym (start_other (k == n) (at + 1) (last_start n starts) differs))) runs

  -- the controller that is made anew keeps no session
  own_fresh : (k : ℕ) → AreMade at judgings → [] ≡ sessions_since k (last_start k (renewal k ∷ starts)) judgings
  own_fresh k made =
      sym (ap (λ (start : ℕ). sessions_since k start judgings) (start_own (k == k) (at + 1) (last_start k starts) (eq-eqb k k refl)) ∙ none_since k judgings made)

  anew_early : Starts at starts → (k : ℕ) → Starts (at + 1) (renewal k ∷ starts)
  anew_early early k =
      (omega arith, all_weaker (λ (one : ControllerRenewed). one.moves ≤ at) (λ (one : ControllerRenewed). one.moves ≤ at + 1) starts (λ one is. omega (arith, is)) early)

  controller_anew : (hands_on : Bool) (found : Option ControllerState) (k : ℕ) (ends : EndStates) → slice_get ends.controllers k ≡ found → Stand starts at judgings ends.controllers →
      Stand (renewal k ∷ starts) (at + 1) judgings (renew_controller hands_on false found k ends).controllers
  controller_anew hands_on None k ends is stands = record {
    judged = judged_later (renewal k) judgings refl stands.made stands.judged;
    each = λ n c there.
        other_kept k n c.running (ne_eqb k n (λ same. no_some c (sym is ∙ ap (λ (m : ℕ). slice_get ends.controllers m) same ∙ there))) (stands.each n c there);
    made = (later_stands starts at judgings ends.controllers stands).made;
    early = anew_early stands.early k;
  }
  controller_anew hands_on (Some c) k ends is stands = record {
    judged = judged_later (renewal k) judgings refl stands.made stands.judged;
    each = each_put (λ (n : ℕ) (x : ControllerState). RunsWith (sessions_since n (last_start n (renewal k ∷ starts)) judgings) x.running) ends.controllers k
        (fresh_controller hands_on false c.table c.name) (λ n x differs there. other_kept k n x.running (ne_eqb k n (λ same. differs (sym same))) (stands.each n x there))
        (fresh_by (λ (x : ControllerState). RunsWith (sessions_since k (last_start k (renewal k ∷ starts)) judgings) x.running) c.table c.name (own_fresh k stands.made) (own_fresh k stands.made) hands_on);
    made = (later_stands starts at judgings ends.controllers stands).made;
    early = anew_early stands.early k;
  }

  member_anew : (found : Option MemberPlan) (k : ℕ) (ends : EndStates) → (renew_member found k ends).controllers ≡ ends.controllers
  member_anew None k ends = refl
  member_anew (Some plan) k ends = refl

  client_anew : (found : Option ClientPlan) (k : ℕ) (ends : EndStates) → (renew_client found k ends).controllers ≡ ends.controllers
  client_anew None k ends = refl
  client_anew (Some plan) k ends = refl

  end_anew : (end : EndId) (s : State) → Stand starts at judgings s.ends.controllers →
      Stand (renewal_by (Some end) (at + 1) ++ starts) (at + 1) judgings (renewed_plain end (forget end s)).ends.controllers
  end_anew (Controller k) s stands = controller_anew s.hands_on (slice_get s.ends.controllers k) k s.ends refl stands
  end_anew (Member k) s stands =
      subst (λ (controllers : List ControllerState). Stand starts (at + 1) judgings controllers) (sym (member_anew (slice_get s.member_plans k) k s.ends))
      (later_stands starts at judgings s.ends.controllers stands)
  end_anew (Client k) s stands =
      subst (λ (controllers : List ControllerState). Stand starts (at + 1) judgings controllers) (sym (client_anew (slice_get s.client_plans k) k s.ends))
      (later_stands starts at judgings s.ends.controllers stands)
  end_anew (Station k) s stands = later_stands starts at judgings s.ends.controllers stands

-- ---- a restart

restart_is : (number : Option ℕ) (s : State) (end : EndId) → end_by number s ≡ Some end → restart_at number s ≡ renewed end (forget end s)
restart_is None s end is = absurd (no_some end is)
restart_is (Some number) s end is = ap (λ (found : Option EndId). restart_by found s) is

-- the end that a move makes anew is all that it changes
pub record IsRestart (what : Move) (at : ℕ) (s : State) (b : Book) (end : EndId) : Type 0 where
  pub acts : (act s what).state ≡ renewed end (forget end s)
  pub notes : note_coming what at s b ≡ b

restarts : (what : Move) (at : ℕ) (s : State) (b : Book) (end : EndId) → restart_of what s ≡ Some end → IsRestart what at s b end
restarts (move.Restart number) at s b end is = record { acts = restart_is (chosen_place number (count_of s.ends)) s end is; notes = refl }
restarts move.Onward at s b end is = absurd (no_some end is)
restarts (move.Deliver unit link) at s b end is = absurd (no_some end is)
restarts (move.Hand link back bytes) at s b end is = absurd (no_some end is)
restarts (move.Start number) at s b end is = absurd (no_some end is)
restarts (move.Stranger number) at s b end is = absurd (no_some end is)
restarts move.Connect at s b end is = absurd (no_some end is)
restarts move.FailDial at s b end is = absurd (no_some end is)
restarts move.Lose at s b end is = absurd (no_some end is)
restarts (move.Shut number) at s b end is = absurd (no_some end is)
restarts (move.Change member secret) at s b end is = absurd (no_some end is)
restarts (move.Tick more) at s b end is = absurd (no_some end is)

-- ---- a run

one_move : (end : Option EndId) (what : Move) (w : World) (b : Book) (starts : List ControllerRenewed) → restart_of what w.state ≡ end → IsPlaced w.state → IsPlain w.state →
    Stand starts w.moves b.judged w.state.ends.controllers →
    Stand (renewal_by end (w.moves + 1) ++ starts) (w.moves + 1) (note w what b).judged (happens w what).state.ends.controllers
one_move None what w b starts is placed plain stands = ends_through (SessionsHold starts) (stands_on starts) what w b is placed plain (λ on. stands) None
one_move (Some end) what w b starts is placed plain stands =
    let so : IsRestart what w.moves w.state b end = restarts what w.moves w.state b end is in
    subst (λ (s : State). Stand (renewal_by (Some end) (w.moves + 1) ++ starts) (w.moves + 1) (note_coming what w.moves w.state b).judged s.ends.controllers) (sym so.acts)
    (subst (λ (x : Book). Stand (renewal_by (Some end) (w.moves + 1) ++ starts) (w.moves + 1) x.judged (renewed end (forget end w.state)).ends.controllers) (sym so.notes)
    (subst (λ (ends : EndStates). Stand (renewal_by (Some end) (w.moves + 1) ++ starts) (w.moves + 1) b.judged ends.controllers) (sym (renews_plainly end (forget end w.state) plain))
    (end_anew w.moves starts b.judged end w.state stands)))

all_moves : (moves : List Move) (w : World) (b : Book) (starts : List ControllerRenewed) → IsPlaced w.state → IsPlain w.state → Stand starts w.moves b.judged w.state.ends.controllers →
    Stand (renewals moves w starts) (run moves w).moves (book moves w b).judged (run moves w).state.ends.controllers
all_moves [] w b starts placed plain stands = stands
all_moves (what ∷ moves) w b starts placed plain stands =
    all_moves moves (happens w what) (note w what b) (renewal_by (restart_of what w.state) (w.moves + 1) ++ starts) (placed_next what w b placed) (moved_plain what w.state plain)
    (one_move (restart_of what w.state) what w b starts refl placed plain stands)

-- in every run sessions follow the calls
pub record SessionsStand (plan : Plan) (moves : List Move) : Type 0 where
  pub judged : AreBySince (renewals moves (first_world plan) []) (past plan moves).book.judged
  pub each : (k : ℕ) (c : ControllerState) → slice_get (past plan moves).world.state.ends.controllers k ≡ Some c →
      RunsWith (sessions_since k (last_start k (renewals moves (first_world plan) [])) (past plan moves).book.judged) c.running

pub sessions_stand : (plan : Plan) (moves : List Move) → IsPlainPlan plan → SessionsStand plan moves
sessions_stand plan moves nothing =
    let stands : Stand (renewals moves (first_world plan) []) (past plan moves).world.moves (past plan moves).book.judged (past plan moves).world.state.ends.controllers =
    all_moves moves (first_world plan) blank [] (placed_first plan) (first_plain plan nothing)
    (subst (λ (w : World). Stand [] 0 [] w.state.ends.controllers) (sym (world_plain plan nothing)) (record {
      judged = tt;
      each = λ k c there. each_fresh (λ (x : ControllerState). RunsWith [] x.running) (λ table name. refl) (λ table name. refl) plan.hands_on plan.tables plan.controllers k c there;
      made = tt;
      early = tt;
    })) in
    record { judged = stands.judged; each = stands.each }
