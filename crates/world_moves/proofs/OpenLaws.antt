-- How many links are open, and how many challenges are drawn.
-- It serves `State::put_answered`, `State::shut_link`, `World::new` and 2 more.
use Rattle.std.proofs.Common.{◌≡◌, ℕ, suc, ◌+◌, ◌-◌, ◌*◌, ◌<◌, ◌≤◌, Bool, true, false, ◌||◌, [], ◌∷◌, length, Option, Some, IsSome, if◌then◌else◌, refl, sym, ap, subst, arith}
use Rattle.outside.specs.Counter.{most_draws}
use Rattle.outside.specs.declared.action.StepRefused.{StepRefused}
use Rattle.outside.specs.declared.action.StepRefused.TheVariants as refused
use Rattle.outside.proofs.CounterLaws.{length-challenges_from}
use Rattle.wire_base.specs.Maps.{has_key, lookup, put, take_out, same_number}
use Rattle.world_moves.specs.declared.links.EndId.{EndId}
use Rattle.world_moves.specs.declared.links.OpenLink.{OpenLink}
use Rattle.world_moves.specs.declared.plan.Plan.{Plan}
use Rattle.world_moves.specs.declared.state.State.{State}
use Rattle.world_moves.specs.Bounds.{DrawsWithin, HasChallengesFor, IsBounded, draw_limit}
use Rattle.world_moves.specs.Links.{OpenMap, forget_end, forgotten_by, open_if}
use Rattle.world_moves.specs.World.{first_world, move_limit}
use Rattle.world_moves.proofs.LevelLaws.{first_within}

-- ---- taken out

fewer_if : (hit : Bool) (entry : ℕ × OpenLink) (links rest : OpenMap) → length rest ≤ length links → length (if hit then links else entry ∷ rest) ≤ suc (length links)
fewer_if true entry links rest few = omega arith
fewer_if false entry links rest few = omega (arith, few)

pub taken_fewer : (link : ℕ) (links : OpenMap) → length (take_out same_number link links) ≤ length links
taken_fewer link [] = omega arith
taken_fewer link (entry ∷ links) = fewer_if (has_key same_number link entry) entry links (take_out same_number link links) (taken_fewer link links)

one_if : (hit : Bool) (entry : ℕ × OpenLink) (links rest : OpenMap) (found : Option OpenLink) → IsSome (if hit then Some entry.1 else found) →
    (IsSome found → length rest + 1 ≤ length links) → length (if hit then links else entry ∷ rest) + 1 ≤ suc (length links)
one_if true entry links rest found there later = omega arith
one_if false entry links rest found there later = omega (arith, later there)

pub taken_one : (link : ℕ) (links : OpenMap) → IsSome (lookup same_number link links) → length (take_out same_number link links) + 1 ≤ length links
taken_one link [] there = absurd (let none = there in cc)
taken_one link (entry ∷ links) there =
    one_if (has_key same_number link entry) entry links (take_out same_number link links) (lookup same_number link links) there (taken_one link links)

-- ---- put

more_if : (hit : Bool) (entry here : ℕ × OpenLink) (links more : OpenMap) → length more ≤ length links + 1 → length (if hit then here ∷ links else entry ∷ more) ≤ suc (length links) + 1
more_if true entry here links more few = omega arith
more_if false entry here links more few = omega (arith, few)

pub put_more : (link : ℕ) (there : OpenLink) (links : OpenMap) → length (put same_number link there links) ≤ length links + 1
put_more link there [] = omega arith
put_more link there (entry ∷ links) = more_if (has_key same_number link entry) entry (link, there) links (put same_number link there links) (put_more link there links)

-- ---- forgotten

kept_if : (is_open : Bool) (number : ℕ) (link : OpenLink) (rest : OpenMap) → length (open_if is_open number link rest) ≤ suc (length rest)
kept_if false number link rest = omega arith
kept_if true number link rest = omega arith

pub forgotten_fewer : (end : EndId) (links : OpenMap) → length (forget_end end links) ≤ length links
forgotten_fewer end [] = omega arith
forgotten_fewer end (entry ∷ links) =
    omega (arith, forgotten_fewer end links, kept_if ((forgotten_by end entry.1).dialler || (forgotten_by end entry.1).acceptor) entry.0 (forgotten_by end entry.1) (forget_end end links))

-- ---- challenges

first_bounded : (plan : Plan) → IsBounded (first_world plan).state 0 false
first_bounded plan = record {
  few = omega arith;
  links = λ runs. omega arith;
  draws = λ runs. omega (arith, length-challenges_from plan.seed 0 0 most_draws);
  told = λ runs. first_within plan;
}

pub made_bounded : (plan : Plan) (s : State) → s ≡ (first_world plan).state → IsBounded s 0 false
made_bounded plan s is = subst (λ (t : State). IsBounded t 0 false) (sym is) (first_bounded plan)

-- a move keeps the bound on what is drawn
pub draws_kept : (old new : State) (moves : ℕ) → most_draws + 3 * length old.open_links ≤ length old.chances.left + draw_limit * moves → DrawsWithin draw_limit old new →
    most_draws + 3 * length new.open_links ≤ length new.chances.left + draw_limit * (moves + 1)
draws_kept old new moves bound few = omega (arith, bound, few)

-- challenges are left for each further move within the limit, whether this one is made or not
pub left_after : (old new : State) (moves : ℕ) → most_draws + 3 * length old.open_links ≤ length old.chances.left + draw_limit * moves → DrawsWithin draw_limit old new →
    moves < move_limit → HasChallengesFor (move_limit - (moves + 1)) new
left_after old new moves bound few more = omega (arith, bound, few, more)

pub left_still : (s : State) (moves : ℕ) → most_draws + 3 * length s.open_links ≤ length s.chances.left + draw_limit * moves → moves < move_limit →
    HasChallengesFor (move_limit - (moves + 1)) s
left_still s moves bound more = omega (arith, bound, more)

only_memory : (why : StepRefused) → (why ≡ refused.Spent → ⊥) → (why ≡ refused.Stopped → ⊥) → why ≡ refused.Memory
only_memory refused.Memory spent stopped = refl
only_memory refused.Spent spent stopped = absurd (spent refl)
only_memory refused.Stopped spent stopped = absurd (stopped refl)

some_left : (old new : State) (moves : ℕ) → most_draws + 3 * length old.open_links ≤ length old.chances.left + draw_limit * moves → DrawsWithin draw_limit old new →
    moves < move_limit → new.chances.left ≡ [] → ⊥
some_left old new moves bound few more none = omega (arith, bound, few, more, ap length none)

-- a move isn't made for want of memory alone
pub never_spent : (why : StepRefused) (old new : State) (moves : ℕ) → most_draws + 3 * length old.open_links ≤ length old.chances.left + draw_limit * moves →
    DrawsWithin draw_limit old new → moves < move_limit → (why ≡ refused.Spent → new.chances.left ≡ []) → (why ≡ refused.Stopped → ⊥) → why ≡ refused.Memory
never_spent why old new moves bound few more spent runs = only_memory why (λ is. some_left old new moves bound few more (spent is)) runs
