-- What holds of each plain move: what holds where a client starts, and what holds at the moves between starts. It
-- serves `Proved.complete`.
use Rattle.std.proofs.Common.{◌≡◌, ℕ, List, [], ◌++◌, refl, subst, sym}
use Rattle.world_moves.specs.declared.moves.Move.{Move}
use Rattle.world_moves.specs.declared.moves.Move.TheVariants as move
use Rattle.logon_runs.specs.Scenes.Others.{IsStepOn}
use Rattle.logon_runs.proofs.Scenes.StepOnLaws.{by_step}
use Rattle.domain_world.specs.Claims.Completeness.{IsPlainMove, started_by}

pub by_plain {ℓ} : (P : Move → Type ℓ) → ((number : ℕ) → P (move.Start number)) → ((what : Move) → IsStepOn what → P what) → (what : Move) → IsPlainMove what → P what
by_plain P starts steps (move.Start number) plain = starts number
by_plain P starts steps move.Connect plain = steps move.Connect tt
by_plain P starts steps move.Onward plain = steps move.Onward tt
by_plain P starts steps (move.Tick more) plain = steps (move.Tick more) tt
by_plain P starts steps (move.Stranger number) plain = absurd plain
by_plain P starts steps move.FailDial plain = absurd plain
by_plain P starts steps move.Lose plain = absurd plain
by_plain P starts steps (move.Deliver unit link) plain = absurd plain
by_plain P starts steps (move.Hand link back bytes) plain = absurd plain
by_plain P starts steps (move.Shut number) plain = absurd plain
by_plain P starts steps (move.Restart number) plain = absurd plain
by_plain P starts steps (move.Change member secret) plain = absurd plain

-- between starts no client is started
none_start : (what : Move) (count : ℕ) → IsStepOn what → started_by what count ≡ []
none_start what count steps = by_step (λ (one : Move). started_by one count ≡ []) refl refl (λ more. refl) what steps

pub later_starts : (P : List ℕ → Type 0) (what : Move) (count : ℕ) (later : List ℕ) → IsStepOn what → P (started_by what count ++ later) → P later
later_starts P what count later steps holds = subst (λ (first : List ℕ). P (first ++ later)) (none_start what count steps) holds

pub with_starts : (P : List ℕ → Type 0) (what : Move) (count : ℕ) (later : List ℕ) → IsStepOn what → P later → P (started_by what count ++ later)
with_starts P what count later steps holds = subst (λ (first : List ℕ). P (first ++ later)) (sym (none_start what count steps)) holds
