-- What follows in a step where one of its parts is refused.
use Rattle.std.proofs.Common.{◌≡◌, ℕ, List, ◌++◌, Result, Ok, Err, refl, sym, ap, ◌∙◌, append_assoc, append-nil}
use Rattle.outside.specs.declared.action.Action.{Action}
use Rattle.outside.specs.declared.action.StepRefused.{StepRefused}
use Rattle.outside.specs.declared.action.StepRefused.TheVariants.{Spent, Memory, Stopped}
use Rattle.outside.specs.Drawing.{Drawing, DrawsSome, IsRest}
use Rattle.outside.specs.Machine.{Stepped, Part, GivesUp, StepsBy, AnswersBy, LeavesRest, RefusalsPass, left_by, then_part, step_by, spent_step}
use Rattle.outside.proofs.DrawLaws.{between_front, DrawsSome-spent, IsRest-nothing, IsRest-trans}

-- two parts in a row leave a rest
pub then_part-rest : {T U : Type 0} (part : Result (Part T) StepRefused) (next : T → List (List ℕ) → Result (Part U) StepRefused) (left : List (List ℕ)) →
    LeavesRest next → IsRest (left_by part) left → IsRest (left_by (then_part part next)) left
then_part-rest (Err why) next left leaves rest = IsRest-nothing left
then_part-rest (Ok part) next left leaves rest = IsRest-trans (left_by (next part.value part.left)) part.left left (leaves part.value part.left) rest

-- a refusal of the first part is one of both
pub AnswersBy-refused : {T U : Type 0} (why : StepRefused) (part : Result (Part T) StepRefused) (next : T → List (List ℕ) → Result (Part U) StepRefused) (left : List (List ℕ)) →
    LeavesRest next → AnswersBy (Err why) part left → AnswersBy (Err why) (then_part part next) left
AnswersBy-refused Spent part next left leaves answer = (ap (λ p. then_part p next) answer.0, answer.1)
AnswersBy-refused Memory part next left leaves answer = then_part-rest part next left leaves answer
AnswersBy-refused Stopped part next left leaves answer = answer

-- what was drawn is a front of what a step draws that leaves no more than is left
pub GivesUp-front : {S : Type 0} (before after : Drawing) (stepped : Stepped S) → DrawsSome before after → IsRest stepped.left after.left →
    ((front : List (List ℕ)) → before.left ≡ front ++ stepped.left → front ≡ stepped.drawn) → GivesUp stepped before after
GivesUp-front before after stepped some rest is = record {
  drawn = some.draws;
  more = rest.front;
  front = is (some.draws ++ rest.front)
      (some.all.left ∙ ap (λ left. some.draws ++ left) (sym rest.is) ∙ sym (append_assoc some.draws rest.front stepped.left));
  draws = some.all;
}

-- a step that is given up in one of its parts
step_by-memory : {S T : Type 0} (actions : T → List Action) (state : T → S) (halted : S) (part : Result (Part T) StepRefused) (before after : Drawing) →
    DrawsSome before after → IsRest (left_by part) after.left → GivesUp (step_by actions state halted before.left part) before after
step_by-memory actions state halted (Ok part) before after some rest =
    GivesUp-front before after (step_by actions state halted before.left (Ok part)) some rest (λ front is. between_front front part.left before.left is)
step_by-memory actions state halted (Err why) before after some rest =
    GivesUp-front before after (spent_step before.left halted) some rest (λ front is. sym (is ∙ append-nil front))

pub StepsBy-refused : {S T : Type 0} (why : StepRefused) (actions : T → List Action) (state : T → S) (halted : S) (part : Result (Part T) StepRefused) (before after : Drawing) →
    DrawsSome before after → AnswersBy (Err why) part after.left → StepsBy (Err why) (step_by actions state halted before.left part) halted halted before after
StepsBy-refused Spent actions state halted part before after some answer = record {
  is = ap (step_by actions state halted before.left) answer.0;
  draws = DrawsSome-spent before after some answer.1;
}
StepsBy-refused Memory actions state halted part before after some answer = (refl, step_by-memory actions state halted part before after some answer)
StepsBy-refused Stopped actions state halted part before after some answer = absurd answer

pub refusals_pass : {S T U : Type 0} → RefusalsPass S T U
refusals_pass = record { parts = AnswersBy-refused; steps = StepsBy-refused; rests = then_part-rest }
