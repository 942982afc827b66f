-- What a client can be told to do, and what it offers (this project's own choice). Names are lists of 16-bit units.
use Rattle.std.specs.Prelude.{ℕ, ◌≡◌, ◌≤◌, ◌||◌, Bool, true, false, length, IsTrue}
use Rattle.rpc_units.specs.Numbers.{connect_level}
use Rattle.ntlm_flags.specs.Flags.{offered_flags, offered_flags_v1}
use Rattle.unit_security.specs.Levels.{is_level, is_signed}
use Rattle.logon_client.specs.declared.plan.AuthKind.{AuthKind}
use Rattle.logon_client.specs.declared.plan.AuthKind.TheVariants.{V1, V1Ess, V2}
use Rattle.logon_client.specs.declared.plan.ClientPlan.{ClientPlan}

-- A plan that a client can follow.
pub record CanLogOn (plan : ClientPlan) : Type 0 where
  pub level : IsTrue (is_level plan.level)
  -- without extended session security nothing is signed
  pub plain : plan.auth ≡ V1 → plan.level ≡ connect_level
  pub echo : plan.echo ≤ 4096
  pub domain : length plan.domain ≤ 64
  pub user : length plan.user ≤ 64
  pub workstation : length plan.workstation ≤ 64

-- ---- what is offered and what is needed

-- the flags of the NEGOTIATE
abbrev pub offer_of : AuthKind → ℕ
offer_of V1 = offered_flags_v1
offer_of V1Ess = offered_flags
offer_of V2 = offered_flags

-- the responses are those of extended session security
abbrev pub is_ess : AuthKind → Bool
is_ess V1 = false
is_ess V1Ess = true
is_ess V2 = false

-- extended session security is needed
abbrev pub needs_ess : ℕ → AuthKind → Bool
needs_ess level auth = is_signed level || is_ess auth
