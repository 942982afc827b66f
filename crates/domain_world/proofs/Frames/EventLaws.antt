-- What holds of each event at which no bytes come: what holds at each kind of them that is left. It serves the frames,
-- and what is carried by them.
use Rattle.std.proofs.Common.{ℕ}
use Rattle.outside.specs.declared.event.Event.{Event}
use Rattle.outside.specs.declared.event.Event.TheVariants as event
use Rattle.domain_world.proofs.Frames.EndFrameLaws.{IsCalm, by_calm}
use Rattle.domain_world.proofs.Frames.FrameLaws.{BringsNothing}
use Rattle.domain_world.proofs.Moves.NoBytesLaws.{IsNoBytes}

pub by_quiet : (P : Event → Type 0) → ((link : ℕ) → P (event.Closed link)) → ((link : ℕ) → P (event.Dialled link)) → P event.DialFailed → P event.Stop → (what : Event) → BringsNothing what → P what
by_quiet P closed dialled fails stops (event.Bytes link piece) quiet = absurd quiet
by_quiet P closed dialled fails stops (event.Opened link) quiet = absurd quiet
by_quiet P closed dialled fails stops (event.Closed link) quiet = closed link
by_quiet P closed dialled fails stops (event.Dialled link) quiet = dialled link
by_quiet P closed dialled fails stops event.DialFailed quiet = fails
by_quiet P closed dialled fails stops event.Stop quiet = stops

pub quiet_no_bytes : (what : Event) → BringsNothing what → IsNoBytes what
quiet_no_bytes = by_quiet IsNoBytes (λ link. tt) (λ link. tt) tt tt

pub calm_no_bytes : (what : Event) → IsCalm what → IsNoBytes what
calm_no_bytes = by_calm IsNoBytes (λ link. tt) tt tt

pub by_no_bytes : (P : Event → Type 0) → ((link : ℕ) → P (event.Opened link)) → ((link : ℕ) → P (event.Closed link)) → ((link : ℕ) → P (event.Dialled link)) → P event.DialFailed → P event.Stop →
    (what : Event) → IsNoBytes what → P what
by_no_bytes P opens closed dialled fails stops (event.Bytes link piece) none = absurd none
by_no_bytes P opens closed dialled fails stops (event.Opened link) none = opens link
by_no_bytes P opens closed dialled fails stops (event.Closed link) none = closed link
by_no_bytes P opens closed dialled fails stops (event.Dialled link) none = dialled link
by_no_bytes P opens closed dialled fails stops event.DialFailed none = fails
by_no_bytes P opens closed dialled fails stops event.Stop none = stops
