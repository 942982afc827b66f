-- What a member kept is what it holds, but for which of its secrets is tried, at every state between two moves.
-- It serves `members_keep_what_they_hold`.
use Rattle.std.proofs.Common.{◌≡◌, ◌⊎◌, ℕ, ◌==◌, zero, suc, Bool, true, false, List, [], ◌∷◌, ◌++◌, inl, inr, length, Option, Some, None, Result, Ok, Err, slice_get, slice_set, refl, sym, ap, subst, ◌∙◌}
use Rattle.std.specs.List.{AllByRecursion}
use Rattle.std.proofs.lemmas.Bool.{cases_Bool, eqb-true}
use Rattle.std.proofs.lemmas.Bool.Decides.{Decides-eqb}
use Rattle.outside.specs.Machine.{Stepped}
use Rattle.outside.specs.declared.action.Action.{Action}
use Rattle.outside.specs.declared.action.Action.TheVariants as action
use Rattle.outside.specs.declared.action.StepRefused.{StepRefused}
use Rattle.outside.specs.declared.event.Event.{Event}
use Rattle.outside.specs.declared.event.Event.TheVariants as event
use Rattle.end_loop.specs.Runs.{actions_of, taken_actions}
use Rattle.secret_change.specs.Secrets.{AreSecrets, IsSecret, SecretsState, reread, secrets_of, written_secrets}
use Rattle.secret_change.specs.declared.secrets.Next.{Next}
use Rattle.secret_change.proofs.FormLaws.{written_is_read}
use Rattle.member_server.specs.State.{State as MemberState}
use Rattle.member_server.specs.Machine.{fresh_member, step_of, step_on}
use Rattle.member_server.specs.Keeping.{BringsNoBytes, HasSecretsUnlessStopped, IsKeptUnlessStopped, IsSecretsText, KeepsNoText, held_text, kept_after, kept_by}
use Rattle.member_server.specs.declared.plan.MemberPlan.{MemberPlan}
use Rattle.member_server.specs.declared.state.Running.{Running}
use Rattle.member_server.proofs.KeepingLaws.{keeps_what_is_held}
use Rattle.member_server.proofs.TextLaws.{keeps_texts}
use Rattle.logon_client.specs.Machine.{begin_of, fresh_client}
use Rattle.world_moves.specs.declared.links.EndId.{EndId}
use Rattle.world_moves.specs.declared.links.EndId.TheVariants.{Client, Controller, Member, Station}
use Rattle.world_moves.specs.declared.plan.Plan.{Plan}
use Rattle.world_moves.specs.declared.state.State.{State}
use Rattle.world_moves.specs.Acting.{Given, forget, given_by, keep_by, plans_after, put_secrets}
use Rattle.world_moves.specs.Ends.{EndStates, EndStep, actions_by}
use Rattle.world_moves.specs.Links.{acceptor_of, same_end}
use Rattle.world_moves.specs.Moving.{changed, with_link}
use Rattle.world_moves.specs.World.{kept_by as kept_in_plan}
use Rattle.domain_world.specs.Claims.NeverApart.{MembersKeepWhatTheyHold}
use Rattle.domain_world.specs.Past.{Past, past}
use Rattle.domain_world.specs.Schedules.{OfSchedules}
use Rattle.wire_base.proofs.ListLaws.{got_nothing, no_some, some_is}
use Rattle.world_moves.proofs.ChangeLaws.{by_change, member_begun, text_begun, with_next}
use Rattle.domain_world.proofs.Quiet.QuietRunLaws.{has_bytes}
use Rattle.domain_world.proofs.Messages.MessageOnceLaws.{set_cases}
use Rattle.domain_world.proofs.Moves.MarkPlaceLaws.{got_map}
use Rattle.domain_world.proofs.Frames.MoveFrameLaws.{HoldsAfterMoves}
use Rattle.world_moves.specs.Alone.{alone_end_step as end_step}
use Rattle.world_moves.specs.Plain.{plain_world}
use Rattle.domain_world.proofs.Frames.AloneStepLaws.{alone_by as step_by, renew_alone as renew, renew_alone_by as renew_by}
use Rattle.domain_world.proofs.Frames.AloneFrameLaws.{moves_keep_alone}
use Rattle.domain_world.proofs.Frames.MoveKeepLaws.{KeepsMoves, MoveFact, NoSide}

-- ---- secrets that are read again

reread_fine : (current : List ℕ) (next : Option Next) → AreSecrets (record { current = current; next = next }) → AreSecrets (reread (record { current = current; next = next }))
reread_fine current None are = are
reread_fine current (Some n) are = are

reread_text : (current : List ℕ) (next : Option Next) → written_secrets (reread (record { current = current; next = next })) ≡ written_secrets (record { current = current; next = next })
unfolding written_secrets
reread_text current None = refl
reread_text current (Some n) = refl

-- two of one text are read alike
pub read_alike : (one other : SecretsState) → AreSecrets one → AreSecrets other → written_secrets one ≡ written_secrets other → reread one ≡ reread other
read_alike one other are these same =
    some_is (reread one) (reread other) (sym (written_is_read one are) ∙ ap secrets_of same ∙ written_is_read other these)

-- ---- texts that aren't kept yet

-- the text after an action, where it is that member's
abbrev pub kept_if : Bool → Action → List ℕ → List ℕ
kept_if false what text = text
kept_if true what text = kept_by what text

abbrev pub kept_in : ℕ → Given → List ℕ → List ℕ
kept_in m [] text = text
kept_in m (one ∷ rest) text = kept_in m rest (kept_if (same_end one.0 (Member m)) one.1 text)

-- a text that an action of the member keeps is that of secrets of 16 bytes
abbrev pub IsTextOf : ℕ → EndId × Action → Type 0
IsTextOf m one = same_end one.0 (Member m) ≡ true → IsSecretsText one.1

own_front : (m : ℕ) (actions : List Action) (rest : Given) (text : List ℕ) → kept_in m (given_by (Member m) actions ++ rest) text ≡ kept_in m rest (kept_after actions text)
own_front m [] rest text = refl
own_front m (what ∷ actions) rest text =
    ap (λ (hit : Bool). kept_in m (given_by (Member m) actions ++ rest) (kept_if hit what text)) ((Decides-eqb m m).1 refl) ∙ own_front m actions rest (kept_by what text)

other_front : (m : ℕ) (end : EndId) (actions : List Action) (rest : Given) (text : List ℕ) → same_end end (Member m) ≡ false → kept_in m (given_by end actions ++ rest) text ≡ kept_in m rest text
other_front m end [] rest text differs = refl
other_front m end (what ∷ actions) rest text differs =
    ap (λ (hit : Bool). kept_in m (given_by end actions ++ rest) (kept_if hit what text)) differs ∙ other_front m end actions rest text differs

no_text : (what : Action) (text : List ℕ) → KeepsNoText what → kept_by what text ≡ text
no_text (action.Keep new) text none = absurd none
no_text (action.Send link bytes) text none = refl
no_text (action.Dial peer) text none = refl
no_text (action.Close link cause) text none = refl
no_text (action.Told link outcome) text none = refl
no_text (action.Judged how) text none = refl

no_texts : (actions : List Action) (text : List ℕ) → AllByRecursion KeepsNoText actions → kept_after actions text ≡ text
no_texts [] text none = refl
no_texts (what ∷ actions) text none = ap (kept_after actions) (no_text what text none.0) ∙ no_texts actions text none.1

none_is_text : (what : Action) → KeepsNoText what → IsSecretsText what
none_is_text (action.Keep new) none = absurd none
none_is_text (action.Send link bytes) none = tt
none_is_text (action.Dial peer) none = tt
none_is_text (action.Close link cause) none = tt
none_is_text (action.Told link outcome) none = tt
none_is_text (action.Judged how) none = tt

none_are_texts : (actions : List Action) → AllByRecursion KeepsNoText actions → AllByRecursion IsSecretsText actions
none_are_texts [] none = tt
none_are_texts (what ∷ actions) none = (none_is_text what none.0, none_are_texts actions none.1)

own_texts : (m : ℕ) (actions : List Action) (rest : Given) → AllByRecursion IsSecretsText actions → AllByRecursion (IsTextOf m) rest → AllByRecursion (IsTextOf m) (given_by (Member m) actions ++ rest)
own_texts m [] rest texts later = later
own_texts m (what ∷ actions) rest texts later = ((λ own. texts.0), own_texts m actions rest texts.1 later)

other_texts : (m : ℕ) (end : EndId) (actions : List Action) (rest : Given) → same_end end (Member m) ≡ false → AllByRecursion (IsTextOf m) rest → AllByRecursion (IsTextOf m) (given_by end actions ++ rest)
other_texts m end [] rest differs later = later
other_texts m end (what ∷ actions) rest differs later =
    ((λ own. absurd (let never : true ≡ false = sym own ∙ differs in cc)), other_texts m end actions rest differs later)

-- ---- what holds of a member

pub record IsHeldAs (m : ℕ) (rest : Given) (secrets : SecretsState) (running : Running) : Type 0 where
  pub are : AreSecrets running.logons.plan.secrets
  pub same : kept_in m rest (written_secrets secrets) ≡ held_text running

-- what it is made from again has such secrets, and behind the texts that aren't kept yet it is what the member holds
pub record KeepsSo (m : ℕ) (rest : Given) (plans : List MemberPlan) (members : List MemberState) : Type 0 where
  pub kept : (own : MemberPlan) → slice_get plans m ≡ Some own → AreSecrets own.secrets
  pub texts : AllByRecursion (IsTextOf m) rest
  pub held : (own : MemberPlan) (st : MemberState) (running : Running) → slice_get plans m ≡ Some own → slice_get members m ≡ Some st → st.running ≡ Some running →
      IsHeldAs m rest own.secrets running

-- the texts of a member stay where another end or another member takes a step
pub other_steps : (m : ℕ) (end : EndId) (actions : List Action) (rest : Given) (plans : List MemberPlan) (members later : List MemberState) → same_end end (Member m) ≡ false →
    ((st : MemberState) → slice_get later m ≡ Some st → slice_get members m ≡ Some st) → KeepsSo m rest plans members → KeepsSo m (given_by end actions ++ rest) plans later
other_steps m end actions rest plans members later differs before keeps = record {
  kept = keeps.kept;
  texts = other_texts m end actions rest differs keeps.texts;
  held = λ own st running is there runs.
      let old : IsHeldAs m rest own.secrets running = keeps.held own st running is (before st there) runs in
      record { are = old.are; same = other_front m end actions rest (written_secrets own.secrets) differs ∙ old.same };
}

-- ---- a member takes a step

-- nothing is under way, or no bytes come
abbrev Comes : Given → Event → Type 0
Comes rest what = (rest ≡ []) ⊎ BringsNoBytes what

pub same_taken : (answer : Result (List Action) StepRefused) → taken_actions answer ≡ actions_by answer
same_taken (Ok actions) = refl
same_taken (Err why) = refl

module _ (m : ℕ) (what : Event) (now : ℕ) (left : List (List ℕ)) (rest : Given) (plans : List MemberPlan) (members : List MemberState) where
  -- the step of one that has stopped, or runs
  abbrev StepOf : MemberState → Stepped MemberState
  StepOf st = step_of st what now left

  stopped_steps : (st : MemberState) → st.running ≡ None → AllByRecursion IsSecretsText (actions_by (StepOf st).answer) × ((StepOf st).state.running ≡ None)
  stopped_steps st none =
      subst (λ (r : Option Running). AllByRecursion IsSecretsText (actions_by (step_on r st what now left).answer) × ((step_on r st what now left).state.running ≡ None)) (sym none) (tt, none)

  -- the text that is kept behind the step
  text_behind : (own : MemberPlan) (st : MemberState) (running later : Running) → st.running ≡ Some running → IsHeldAs m rest own.secrets running → Comes rest what →
      (StepOf st).state.running ≡ Some later → kept_in m (given_by (Member m) (actions_by (StepOf st).answer) ++ rest) (written_secrets own.secrets) ≡ held_text later
  text_behind own st running later runs old (inl none) is =
      let actions : List Action = actions_by (StepOf st).answer in
      let text : written_secrets own.secrets ≡ held_text running = ap (λ (g : Given). kept_in m g (written_secrets own.secrets)) (sym none) ∙ old.same in
      let behind : IsKeptUnlessStopped (kept_after (actions_of (StepOf st)) (held_text running)) (Some later) =
      subst (λ (r : Option Running). IsKeptUnlessStopped (kept_after (actions_of (StepOf st)) (held_text running)) r) is (keeps_what_is_held.step st running what now left runs) in
      own_front m actions rest (written_secrets own.secrets)
      ∙ ap (λ (g : Given). kept_in m g (kept_after actions (written_secrets own.secrets))) none
      ∙ ap (λ (all : List Action). kept_after all (written_secrets own.secrets)) (sym (same_taken (StepOf st).answer))
      ∙ ap (kept_after (actions_of (StepOf st))) text
      ∙ behind
  text_behind own st running later runs old (inr quiet) is =
      let actions : List Action = actions_by (StepOf st).answer in
      let its = keeps_texts.quiet st running what now left runs quiet in
      let none : AllByRecursion KeepsNoText actions = subst (AllByRecursion KeepsNoText) (same_taken (StepOf st).answer) its.0 in
      let behind : IsKeptUnlessStopped (held_text running) (Some later) = subst (λ (r : Option Running). IsKeptUnlessStopped (held_text running) r) is its.1 in
      own_front m actions rest (written_secrets own.secrets) ∙ ap (kept_in m rest) (no_texts actions (written_secrets own.secrets) none) ∙ old.same ∙ behind

  secrets_behind : (st : MemberState) (running later : Running) → st.running ≡ Some running → AreSecrets running.logons.plan.secrets → (StepOf st).state.running ≡ Some later →
      AreSecrets later.logons.plan.secrets
  secrets_behind st running later runs are is = subst HasSecretsUnlessStopped is (keeps_texts.secrets st running what now left runs are)

  texts_of : (r : Option Running) (st : MemberState) → st.running ≡ r → ((running : Running) → r ≡ Some running → AreSecrets running.logons.plan.secrets) →
      AllByRecursion IsSecretsText (actions_by (StepOf st).answer)
  texts_of None st runs are = (stopped_steps st runs).0
  texts_of (Some running) st runs are =
      subst (AllByRecursion IsSecretsText) (same_taken (StepOf st).answer) (keeps_texts.texts st running what now left runs (are running refl))

  -- what a member holds behind a step, by what it ran as before
  held_behind : (r : Option Running) (own : MemberPlan) (st : MemberState) (later : Running) → st.running ≡ r → ((running : Running) → r ≡ Some running → IsHeldAs m rest own.secrets running) →
      Comes rest what → (StepOf st).state.running ≡ Some later → IsHeldAs m (given_by (Member m) (actions_by (StepOf st).answer) ++ rest) own.secrets later
  held_behind None own st later runs old comes is = absurd (no_some later (sym (stopped_steps st runs).1 ∙ is))
  held_behind (Some running) own st later runs old comes is = record {
    are = secrets_behind st running later runs (old running refl).are is;
    same = text_behind own st running later runs (old running refl) comes is;
  }

  -- A member that takes a step needs a plan, since its texts are kept only where it has one.
  own_step : (own : MemberPlan) (st : MemberState) → slice_get plans m ≡ Some own → slice_get members m ≡ Some st → Comes rest what → KeepsSo m rest plans members →
      KeepsSo m (given_by (Member m) (actions_by (StepOf st).answer) ++ rest) plans (slice_set members m (StepOf st).state)
  own_step own st plan there comes keeps = record {
    kept = keeps.kept;
    texts = own_texts m (actions_by (StepOf st).answer) rest
        (texts_of st.running st refl (λ running runs. (keeps.held own st running plan there runs).are)) keeps.texts;
    held = λ other after later is at runs. elim (set_cases members m m (StepOf st).state after at) [
      | inl here ↦
          held_behind st.running other st later refl (λ running was. keeps.held other st running is there was) comes (ap MemberState.running here.1 ∙ runs)
      | inr elsewhere ↦ absurd (elsewhere.0 refl)
    ];
  }

-- an end takes a step
hears_so : (m : ℕ) (own : MemberPlan) (what : Event) (end : EndId) (s : State) (rest : Given) → slice_get s.member_plans m ≡ Some own → Comes rest what →
    KeepsSo m rest s.member_plans s.ends.members →
    KeepsSo m (given_by end (end_step end what s.moment s.ends s.chances).actions ++ rest) s.member_plans (end_step end what s.moment s.ends s.chances).ends.members
hears_so m own what end s rest plan comes keeps =
    step_by (λ (one : EndId) (step : EndStep). KeepsSo m (given_by one step.actions ++ rest) s.member_plans step.ends.members) what s.moment s.ends s.chances
    (λ one. keeps)
    (λ at c is. other_steps m (Controller at) _ rest s.member_plans s.ends.members s.ends.members refl (λ st there. there) keeps)
    (λ at st is. elim (cases_Bool (at == m)) [
      | inl hit ↦
          subst (λ (k : ℕ). KeepsSo m (given_by (Member k) (actions_by (step_of st what s.moment s.chances.left).answer) ++ rest) s.member_plans
          (slice_set s.ends.members k (step_of st what s.moment s.chances.left).state)) (sym (eqb-true at m hit))
          (own_step m what s.moment s.chances.left rest s.member_plans s.ends.members own st plan (subst (λ (k : ℕ). slice_get s.ends.members k ≡ Some st) (eqb-true at m hit) is) comes keeps)
      | inr other ↦
          other_steps m (Member at) _ rest s.member_plans s.ends.members (slice_set s.ends.members at (step_of st what s.moment s.chances.left).state) other
          (λ found there. elim (set_cases s.ends.members at m (step_of st what s.moment s.chances.left).state found there) [
            | inl here ↦ absurd (let never : true ≡ false = sym ((Decides-eqb at m).1 (sym here.0)) ∙ other in cc)
            | inr same ↦ same.1
          ]) keeps
    ])
    (λ at c is. other_steps m (Client at) _ rest s.member_plans s.ends.members s.ends.members refl (λ st there. there) keeps) end

-- ---- an action is done

one_done : (m : ℕ) (one : EndId × Action) (rest : Given) (plans : List MemberPlan) (members : List MemberState) →
    ((text : List ℕ) → kept_if (same_end one.0 (Member m)) one.1 text ≡ text) → KeepsSo m (one ∷ rest) plans members → KeepsSo m rest plans members
one_done m one rest plans members none keeps = record {
  kept = keeps.kept;
  texts = keeps.texts.1;
  held = λ own st running is there runs.
      let old : IsHeldAs m (one ∷ rest) own.secrets running = keeps.held own st running is there runs in
      record { are = old.are; same = ap (kept_in m rest) (sym (none (written_secrets own.secrets))) ∙ old.same };
}

-- the secrets of a text are put into a plan
abbrev with_read : SecretsState → MemberPlan → MemberPlan
with_read secrets own = record own { secrets = secrets }

put_elsewhere : (found : Option SecretsState) (old : Option MemberPlan) (at m : ℕ) (plans : List MemberPlan) (own : MemberPlan) → (at == m) ≡ false → slice_get plans at ≡ old →
    slice_get (keep_by found at plans) m ≡ Some own → slice_get plans m ≡ Some own
put_elsewhere None old at m plans own other is there = there
put_elsewhere (Some secrets) None at m plans own other is there =
    subst (λ (o : Option MemberPlan). slice_get (put_secrets o secrets at plans) m ≡ Some own) is there
put_elsewhere (Some secrets) (Some plan) at m plans own other is there =
    elim (set_cases plans at m (with_read secrets plan) own (subst (λ (o : Option MemberPlan). slice_get (put_secrets o secrets at plans) m ≡ Some own) is there)) [
      | inl here ↦ absurd (let never : true ≡ false = sym ((Decides-eqb at m).1 (sym here.0)) ∙ other in cc)
      | inr same ↦ same.1
    ]

-- what stands there then
pub record IsRead (secrets : SecretsState) (m : ℕ) (plans : List MemberPlan) (own : MemberPlan) : Type 0 where
  pub old : MemberPlan
  pub was : slice_get plans m ≡ Some old
  pub is : own.secrets ≡ secrets

put_here : (secrets : SecretsState) (old : Option MemberPlan) (m : ℕ) (plans : List MemberPlan) (own : MemberPlan) → slice_get plans m ≡ old →
    slice_get (put_secrets old secrets m plans) m ≡ Some own → IsRead secrets m plans own
put_here secrets None m plans own is there = absurd (no_some own (sym is ∙ there))
put_here secrets (Some plan) m plans own is there = elim (set_cases plans m m (with_read secrets plan) own there) [
  | inl here ↦ record { old = plan; was = is; is = ap (λ (p : MemberPlan). p.secrets) (sym here.1) }
  | inr same ↦ absurd (same.0 refl)
]

text_done : (m : ℕ) (text : List ℕ) (x : SecretsState) (rest : Given) (plans : List MemberPlan) (members : List MemberState) → AreSecrets x → text ≡ written_secrets x →
    KeepsSo m ((Member m, action.Keep text) ∷ rest) plans members → KeepsSo m rest (keep_by (secrets_of text) m plans) members
text_done m text x rest plans members are is keeps =
    let found : secrets_of text ≡ Some (reread x) = ap secrets_of is ∙ written_is_read x are in
    let read : (own : MemberPlan) → slice_get (keep_by (secrets_of text) m plans) m ≡ Some own → IsRead (reread x) m plans own =
    λ own there. put_here (reread x) (slice_get plans m) m plans own refl (subst (λ (o : Option SecretsState). slice_get (keep_by o m plans) m ≡ Some own) found there) in
    let fine : AreSecrets (reread x) = reread_fine x.current x.next are in
    record {
      kept = λ own there. subst AreSecrets (sym (read own there).is) fine;
      texts = keeps.texts.1;
      held = λ own st running there at runs.
          let its : IsRead (reread x) m plans own = read own there in
          let old : IsHeldAs m ((Member m, action.Keep text) ∷ rest) its.old.secrets running = keeps.held its.old st running its.was at runs in
          record {
            are = old.are;
            same = ap (λ (s : SecretsState). kept_in m rest (written_secrets s)) its.is ∙ ap (kept_in m rest) (reread_text x.current x.next ∙ sym is)
                ∙ ap (λ (hit : Bool). kept_in m rest (kept_if hit (action.Keep text) (written_secrets its.old.secrets))) (sym ((Decides-eqb m m).1 refl)) ∙ old.same;
          };
    }

-- of another member's
elsewhere_done : (m at : ℕ) (text : List ℕ) (rest : Given) (plans : List MemberPlan) (members : List MemberState) → (at == m) ≡ false →
    KeepsSo m ((Member at, action.Keep text) ∷ rest) plans members → KeepsSo m rest (keep_by (secrets_of text) at plans) members
elsewhere_done m at text rest plans members other keeps =
    let before : (own : MemberPlan) → slice_get (keep_by (secrets_of text) at plans) m ≡ Some own → slice_get plans m ≡ Some own =
    λ own there. put_elsewhere (secrets_of text) (slice_get plans at) at m plans own other refl there in
    record {
      kept = λ own there. keeps.kept own (before own there);
      texts = keeps.texts.1;
      held = λ own st running there found runs.
          let old : IsHeldAs m ((Member at, action.Keep text) ∷ rest) own.secrets running = keeps.held own st running (before own there) found runs in
          record { are = old.are; same = ap (λ (hit : Bool). kept_in m rest (kept_if hit (action.Keep text) (written_secrets own.secrets))) (sym other) ∙ old.same };
    }

member_done : (m at : ℕ) (text : List ℕ) (rest : Given) (plans : List MemberPlan) (members : List MemberState) → KeepsSo m ((Member at, action.Keep text) ∷ rest) plans members →
    KeepsSo m rest (keep_by (secrets_of text) at plans) members
member_done m at text rest plans members keeps = elim (cases_Bool (at == m)) [
  | inl hit ↦
      let its = keeps.texts.0 hit in
      subst (λ (k : ℕ). KeepsSo m rest (keep_by (secrets_of text) k plans) members) (sym (eqb-true at m hit))
      (text_done m text its.0 rest plans members its.1 its.2
      (subst (λ (k : ℕ). KeepsSo m ((Member k, action.Keep text) ∷ rest) plans members) (eqb-true at m hit) keeps))
  | inr other ↦ elsewhere_done m at text rest plans members other keeps
]

-- an action that keeps no text
same_text : (hit : Bool) (what : Action) (text : List ℕ) → KeepsNoText what → kept_if hit what text ≡ text
same_text false what text none = refl
same_text true what text none = no_text what text none

pub acts_so : (m : ℕ) (end : EndId) (what : Action) (rest : Given) (plans : List MemberPlan) (members : List MemberState) → KeepsSo m ((end, what) ∷ rest) plans members →
    KeepsSo m rest (plans_after end what plans) members
acts_so m (Controller at) (action.Keep text) rest plans members keeps = one_done m (Controller at, action.Keep text) rest plans members (λ one. refl) keeps
acts_so m (Member at) (action.Keep text) rest plans members keeps = member_done m at text rest plans members keeps
acts_so m (Client at) (action.Keep text) rest plans members keeps = one_done m (Client at, action.Keep text) rest plans members (λ one. refl) keeps
acts_so m (Station at) (action.Keep text) rest plans members keeps = one_done m (Station at, action.Keep text) rest plans members (λ one. refl) keeps
acts_so m end (action.Send link bytes) rest plans members keeps =
    one_done m (end, action.Send link bytes) rest plans members (λ one. same_text (same_end end (Member m)) (action.Send link bytes) one tt) keeps
acts_so m end (action.Dial peer) rest plans members keeps =
    one_done m (end, action.Dial peer) rest plans members (λ one. same_text (same_end end (Member m)) (action.Dial peer) one tt) keeps
acts_so m end (action.Close link cause) rest plans members keeps =
    one_done m (end, action.Close link cause) rest plans members (λ one. same_text (same_end end (Member m)) (action.Close link cause) one tt) keeps
acts_so m end (action.Told link outcome) rest plans members keeps =
    one_done m (end, action.Told link outcome) rest plans members (λ one. same_text (same_end end (Member m)) (action.Told link outcome) one tt) keeps
acts_so m end (action.Judged how) rest plans members keeps =
    one_done m (end, action.Judged how) rest plans members (λ one. same_text (same_end end (Member m)) (action.Judged how) one tt) keeps

-- ---- an end is made anew

-- a member is put in a place
member_put : (m at : ℕ) (new : MemberState) (plans : List MemberPlan) (members : List MemberState) →
    ((own : MemberPlan) (running : Running) → at ≡ m → slice_get plans m ≡ Some own → new.running ≡ Some running → IsHeldAs m [] own.secrets running) → KeepsSo m [] plans members →
    KeepsSo m [] plans (slice_set members at new)
member_put m at new plans members here keeps = record {
  kept = keeps.kept;
  texts = tt;
  held = λ own st running is there runs. elim (set_cases members at m new st there) [
    | inl same ↦ here own running (sym same.0) is (ap MemberState.running same.1 ∙ runs)
    | inr other ↦ keeps.held own st running is other.1 runs
  ];
}

fresh_held : (m : ℕ) (own plan : MemberPlan) (running : Running) → Some plan ≡ Some own → (fresh_member plan).running ≡ Some running → AreSecrets own.secrets → IsHeldAs m [] own.secrets running
fresh_held m own plan running same runs are =
    let secrets : own.secrets ≡ running.logons.plan.secrets =
    ap (λ (p : MemberPlan). p.secrets) (sym (some_is plan own same)) ∙ ap (λ (r : Running). r.logons.plan.secrets) (some_is _ running runs) in
    record { are = subst AreSecrets secrets are; same = ap written_secrets secrets }

renewed_so : (m : ℕ) (end : EndId) (s : State) → KeepsSo m [] s.member_plans s.ends.members → KeepsSo m [] s.member_plans (renew end s).members
renewed_so m end s keeps =
    renew_by (λ (one : EndId) (ends : EndStates). KeepsSo m [] s.member_plans ends.members) s (λ one. keeps) (λ at c is. keeps)
    (λ at plan is.
    member_put m at (fresh_member plan) s.member_plans s.ends.members
    (λ own running hit there runs.
    fresh_held m own plan running (sym is ∙ ap (λ (k : ℕ). slice_get s.member_plans k) hit ∙ there) runs (keeps.kept own there)) keeps) (λ at plan is. keeps) end

-- ---- a change of a secret begins

begun_held : (m : ℕ) (own : MemberPlan) (secret : List ℕ) (running later : Running) → IsSecret secret → IsHeldAs m [] own.secrets running → (member_begun secret running).running ≡ Some later →
    IsHeldAs m (given_by (Member m) (text_begun secret running) ++ []) own.secrets later
begun_held m own secret running later formed old runs =
    let secrets : with_next secret running.logons.plan.secrets ≡ later.logons.plan.secrets = ap (λ (r : Running). r.logons.plan.secrets) (some_is _ later runs) in
    record {
      are = subst AreSecrets secrets (old.are.0, formed);
      same = own_front m (text_begun secret running) [] (written_secrets own.secrets) ∙ ap written_secrets secrets;
    }

begun_so : (m at : ℕ) (own : MemberPlan) (secret : List ℕ) (running : Running) (plans : List MemberPlan) (members : List MemberState) → slice_get plans m ≡ Some own → IsSecret secret →
    slice_get members at ≡ Some (record { running = Some running }) → KeepsSo m [] plans members →
    KeepsSo m (given_by (Member at) (text_begun secret running) ++ []) plans (slice_set members at (member_begun secret running))
begun_so m at own secret running plans members plan formed there keeps = elim (cases_Bool (at == m)) [
  | inl hit ↦
      let same : at ≡ m = eqb-true at m hit in
      let old : (other : MemberPlan) → slice_get plans m ≡ Some other → IsHeldAs m [] other.secrets running =
      λ other is. keeps.held other (record { running = Some running }) running is (subst (λ (k : ℕ). slice_get members k ≡ Some (record { running = Some running })) same there) refl in
      subst (λ (k : ℕ). KeepsSo m (given_by (Member k) (text_begun secret running) ++ []) plans (slice_set members k (member_begun secret running))) (sym same) (record {
        kept = keeps.kept;
        texts = own_texts m (text_begun secret running) [] ((with_next secret running.logons.plan.secrets, ((old own plan).are.0, formed), refl), tt) tt;
        held = λ other st later is found runs. elim (set_cases members m m (member_begun secret running) st found) [
          | inl here ↦ begun_held m other secret running later formed (old other is) (ap MemberState.running here.1 ∙ runs)
          | inr elsewhere ↦ absurd (elsewhere.0 refl)
        ];
      })
  | inr other ↦
      other_steps m (Member at) (text_begun secret running) [] plans members (slice_set members at (member_begun secret running)) other
      (λ found is. elim (set_cases members at m (member_begun secret running) found is) [
        | inl here ↦ absurd (let never : true ≡ false = sym ((Decides-eqb at m).1 (sym here.0)) ∙ other in cc)
        | inr same ↦ same.1
      ]) keeps
]

changed_so : (m at : ℕ) (own : MemberPlan) (secret : List ℕ) (s : State) → slice_get s.member_plans m ≡ Some own → IsSecret secret → KeepsSo m [] s.member_plans s.ends.members →
    KeepsSo m (given_by (Member at) (changed at secret s).actions ++ []) s.member_plans (changed at secret s).state.ends.members
changed_so m at own secret s plan formed keeps =
    by_change (λ (ends : EndStates) (actions : List Action). KeepsSo m (given_by (Member at) actions ++ []) s.member_plans ends.members) at secret s.ends keeps
    (λ running is none. begun_so m at own secret running s.member_plans s.ends.members plan formed is keeps)

-- ---- through the moves

-- there is something that the member is made from, and that holds of it
abbrev pub Kept : ℕ → MoveFact
Kept m n p s given b = ((own : MemberPlan) × (slice_get s.member_plans m ≡ Some own)) × KeepsSo m p.rest s.member_plans s.ends.members

set_there : (plans : List MemberPlan) (at m : ℕ) (new own : MemberPlan) → slice_get plans m ≡ Some own → (later : MemberPlan) × (slice_get (slice_set plans at new) m ≡ Some later)
set_there [] at m new own is = absurd (got_nothing m own is)
set_there (first ∷ plans) zero zero new own is = (new, refl)
set_there (first ∷ plans) zero (suc m) new own is = (own, is)
set_there (first ∷ plans) (suc at) zero new own is = (own, is)
set_there (first ∷ plans) (suc at) (suc m) new own is = set_there plans at m new own is

put_there : (found : Option SecretsState) (old : Option MemberPlan) (at m : ℕ) (plans : List MemberPlan) (own : MemberPlan) → slice_get plans at ≡ old → slice_get plans m ≡ Some own →
    (later : MemberPlan) × (slice_get (keep_by found at plans) m ≡ Some later)
put_there None old at m plans own is there = (own, there)
put_there (Some secrets) None at m plans own is there =
    subst (λ (o : Option MemberPlan). (later : MemberPlan) × (slice_get (put_secrets o secrets at plans) m ≡ Some later)) (sym is) (own, there)
put_there (Some secrets) (Some plan) at m plans own is there =
    subst (λ (o : Option MemberPlan). (later : MemberPlan) × (slice_get (put_secrets o secrets at plans) m ≡ Some later)) (sym is)
    (set_there plans at m (with_read secrets plan) own there)

still_there : (m : ℕ) (end : EndId) (what : Action) (plans : List MemberPlan) → ((own : MemberPlan) × (slice_get plans m ≡ Some own)) →
    (later : MemberPlan) × (slice_get (plans_after end what plans) m ≡ Some later)
still_there m (Controller at) (action.Keep text) plans has = has
still_there m (Member at) (action.Keep text) plans has = put_there (secrets_of text) (slice_get plans at) at m plans has.0 refl has.1
still_there m (Client at) (action.Keep text) plans has = has
still_there m (Station at) (action.Keep text) plans has = has
still_there m end (action.Send link bytes) plans has = has
still_there m end (action.Dial peer) plans has = has
still_there m end (action.Close link cause) plans has = has
still_there m end (action.Told link outcome) plans has = has
still_there m end (action.Judged how) plans has = has

pub kept_keeps : (m : ℕ) → KeepsMoves (Unit {0}) NoSide (Kept m)
kept_keeps m = record {
  closes = λ n p end link s given b work none holds. (holds.0, hears_so m holds.0.0 (event.Closed link) end s p.rest holds.0.1 (inr tt) holds.1);
  opens = λ n at dial route s given b out none holds. (holds.0, hears_so m holds.0.0 (event.Opened (length s.links)) (acceptor_of route) (with_link route s) [] holds.0.1 (inr tt) holds.1);
  dialled = λ n at end link s given b here none holds. (holds.0, hears_so m holds.0.0 (event.Dialled link) end s [] holds.0.1 (inr tt) holds.1);
  fails = λ n at end s b none holds. (holds.0, hears_so m holds.0.0 event.DialFailed end s [] holds.0.1 (inr tt) holds.1);
  begins = λ n at client plan s b is none holds.
      (holds.0, other_steps m (Client client) (begin_of (fresh_client plan)).actions [] s.member_plans s.ends.members s.ends.members refl (λ st there. there) holds.1);
  comes = λ n end w piece s given b here came bytes none holds. (holds.0, hears_so m holds.0.0 (event.Bytes w.link piece) end s [] holds.0.1 (inl refl) holds.1);
  reaches = λ n w s given b none holds. holds;
  acts = λ n p end what s given b work none holds. (still_there m end what s.member_plans holds.0, acts_so m end what p.rest s.member_plans s.ends.members holds.1);
  shuts = λ n p link s given b work none holds. holds;
  answers = λ n at dial link there s given b is none holds. holds;
  forgets = λ n at end s b none holds. holds;
  settles = λ n at on number s b none holds. holds;
  dials = λ n at dial s b is none holds. holds;
  renews = λ n at end s b none holds. (holds.0, renewed_so m end (forget end s) holds.1);
  changes = λ n at member secret s b formed none holds. (holds.0, changed_so m member holds.0.0 secret s holds.0.1 (formed tt) holds.1);
  ticks = λ n at more s b none holds. holds;
  over = λ n at on next s given b none holds. holds;
}

-- ---- of each schedule

pub first_keeps : (plan : Plan) (m : ℕ) (own : MemberPlan) → slice_get plan.members m ≡ Some own → AreSecrets own.secrets → KeepsSo m [] (plain_world plan).state.member_plans (plain_world plan).state.ends.members
first_keeps plan m own is are = record {
  kept = λ other there. subst (λ (p : MemberPlan). AreSecrets p.secrets) (some_is own other (sym is ∙ there)) are;
  texts = tt;
  held = λ other st running there found runs.
      let made = got_map fresh_member plan.members m st found in
      let same : own ≡ other = some_is own other (sym is ∙ there) in
      fresh_held m other made.0 running (sym made.1 ∙ there) (ap MemberState.running made.2 ∙ runs) (subst (λ (p : MemberPlan). AreSecrets p.secrets) same are);
}

pub secrets_in : (found : Option MemberPlan) (secrets : SecretsState) → kept_in_plan found ≡ Some secrets → (own : MemberPlan) × (found ≡ Some own) × (own.secrets ≡ secrets)
secrets_in None secrets is = absurd (no_some secrets is)
secrets_in (Some own) secrets is = (own, refl, some_is own.secrets secrets is)

pub members_keep : OfSchedules (λ plan moves. MembersKeepWhatTheyHold (past plan moves))
members_keep plan moves nobody schedule m own is are =
    let after : HoldsAfterMoves (Unit {0}) (Kept m) plan moves =
    moves_keep_alone (Unit {0}) (Kept m) (kept_keeps m) plan moves nobody (λ known. has_bytes plan moves nobody schedule) (λ on. ((own, is), first_keeps plan m own is are)) in
    let p : Past = past plan moves in
    record {
      kept = λ secrets there.
          let its = secrets_in (slice_get p.world.state.member_plans m) secrets there in
          subst AreSecrets its.2 (after.holds.1.kept its.0 its.1);
      held = λ secrets st running there found runs.
          let its = secrets_in (slice_get p.world.state.member_plans m) secrets there in
          let held : IsHeldAs m [] its.0.secrets running = after.holds.1.held its.0 st running its.1 found runs in
          (held.are, ap reread (sym its.2) ∙ read_alike its.0.secrets running.logons.plan.secrets (after.holds.1.kept its.0 its.1) held.are held.same);
    }
