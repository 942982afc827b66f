-- The next turn, for which a peer is dialled. It serves `next_dial`.
use Rattle.std.proofs.Common.{◌≡◌, ℕ, List, Ok, Err, sym, ap, subst}
use Rattle.outside.specs.declared.action.StepRefused.{StepRefused}
use Rattle.outside.specs.declared.action.StepRefused.TheVariants.{Memory}
use Rattle.outside.specs.Drawing.{IsRest}
use Rattle.outside.specs.Machine.{AnswersBy, left_by, then_part}
use Rattle.outside.proofs.DrawLaws.{IsRest-refl}
use Rattle.outside.proofs.MachineLaws.{AnswersBy-refused}
use Rattle.channel_turns.specs.declared.state.Turning.{Turning}
use Rattle.channel_turns.specs.Dials.{NextTurn, next_turn}
use Rattle.channel_turns.specs.Turning.{dial_part, next_dial}

pub next_done : (now : ℕ) (peer : List ℕ) (turning : Turning) (next : NextTurn) (before after : List (List ℕ)) →
    next_turn now turning.channel before ≡ Ok (record { value = next; left = after }) →
    next_dial now peer turning before ≡ dial_part peer turning next after
next_done now peer turning next before after is = ap (λ p. then_part p (dial_part peer turning)) is

pub next_refused : (why : StepRefused) (now : ℕ) (peer : List ℕ) (turning : Turning) (before after : List (List ℕ)) →
    AnswersBy (Err why) (next_turn now turning.channel before) after → AnswersBy (Err why) (next_dial now peer turning before) after
next_refused why now peer turning before after answer =
    AnswersBy-refused why (next_turn now turning.channel before) (dial_part peer turning) after (λ next left. IsRest-refl left) answer

-- the next turn started, and no memory was found to dial
pub next_memory : (now : ℕ) (peer : List ℕ) (turning : Turning) (next : NextTurn) (before after : List (List ℕ)) →
    next_turn now turning.channel before ≡ Ok (record { value = next; left = after }) →
    AnswersBy (Err Memory) (next_dial now peer turning before) after
next_memory now peer turning next before after is =
    subst (λ p. IsRest (left_by p) after) (sym (next_done now peer turning next before after is)) (IsRest-refl after)

pub ruleset dialling = (next_done, next_refused, next_memory)
