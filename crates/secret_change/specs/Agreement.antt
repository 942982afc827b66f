-- A machine and its controller while the machine replaces its secret. This is the project's own way to say that no loss
-- and no restart leaves the two apart.
use Rattle.std.specs.Prelude.{ℕ, ◌≡◌, ◌⊎◌, List, [], ◌∷◌, Some, None}
use Rattle.secret_change.specs.Secrets.{SecretsState, alone, next_of, tried_of, begin_of, denied_of, opened_of, confirmed_of, reread}

-- The secrets that the machine holds; those of the text that it wrote last, which a restart begins with; and the
-- controller's secret of the machine.
pub record Pair : Type 0 where
  pub held : SecretsState
  pub kept : SecretsState
  pub controllers : List ℕ

-- What may happen. Whatever is lost, a call, a reply or a link, is something that doesn't happen.
pub data Happening : Type 0 where
  -- a change to a new secret begins, where none is under way
  begins : List ℕ → Happening
  -- the machine's text is written
  keeps : Happening
  -- the machine begins again with its text, at any time, before or after it is written
  restarts : Happening
  -- the controller takes a secret that the machine sent
  takes : List ℕ → Happening
  -- the machine hears that the controller took its next secret
  hears : Happening
  -- a channel opens under the secret that is tried
  opens : Happening
  -- a channel is denied, or seems to be
  denies : Happening

-- a secret is the current or the next one
abbrev pub Holds : List ℕ → SecretsState → Type 0
Holds secret s = (secret ≡ s.current) ⊎ (next_of s ≡ Some secret)

-- When each may happen. The machine sends secrets that it holds, and that it wrote before; it hears of its next one
-- only once the controller has it; and a channel opens only where both ends have the same secret. A denial may come at
-- any time.
abbrev pub MayHappen : Pair → Happening → Type 0
MayHappen p (begins secret) = p.held.next ≡ None
MayHappen p keeps = Unit {0}
MayHappen p restarts = Unit {0}
MayHappen p (takes secret) = Holds secret p.held × Holds secret p.kept
MayHappen p hears = next_of p.held ≡ Some p.controllers
MayHappen p opens = tried_of p.held ≡ p.controllers
MayHappen p denies = Unit {0}

abbrev pub after : Pair → Happening → Pair
after p (begins secret) = record p { held = (begin_of p.held secret).secrets }
after p keeps = record p { kept = p.held }
after p restarts = record p { held = reread p.kept }
after p (takes secret) = record p { controllers = secret }
after p hears = record p { held = confirmed_of p.held }
after p opens = record p { held = opened_of p.held }
after p denies = record p { held = denied_of p.held }

-- one after the other
abbrev pub MayHappenAll : Pair → List Happening → Type 0
MayHappenAll p [] = Unit {0}
MayHappenAll p (one ∷ more) = MayHappen p one × MayHappenAll (after p one) more

abbrev pub after_all : Pair → List Happening → Pair
after_all p [] = p
after_all p (one ∷ more) = after_all (after p one) more

-- a machine and a controller of one secret, before any change
abbrev pub first_pair : List ℕ → Pair
first_pair secret = record { held = alone secret; kept = alone secret; controllers = secret }

-- the controller's secret is the current or the next one, of what the machine holds and of what it kept; where none is
-- next it is the current one
pub record Agree (p : Pair) : Type 0 where
  pub held : Holds p.controllers p.held
  pub kept : Holds p.controllers p.kept
  pub held_alone : p.held.next ≡ None → p.controllers ≡ p.held.current
  pub kept_alone : p.kept.next ≡ None → p.controllers ≡ p.kept.current
  -- the next channel opens, or the one after it is denied once
  pub opens_soon : (tried_of p.held ≡ p.controllers) ⊎ (tried_of (denied_of p.held) ≡ p.controllers)
