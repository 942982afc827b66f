-- Each that asks for a trust at a controller that was just made has no channel, and nobody waits at it.
-- It serves `Proved.own`, `runs_begin` and `claims_hold_of_runs`.
use Rattle.std.proofs.Common.{◌≡◌, ℕ, zero, suc, Bool, true, false, List, [], ◌∷◌, map, Option, Some, None, slice_get, refl, sym, subst}
use Rattle.account_table.specs.AccountTable.{AccountTable}
use Rattle.account_table.specs.declared.account.Trust.{Trust}
use Rattle.channel_client.specs.Machine.{fresh_requester}
use Rattle.channel_client.specs.State.{Requester}
use Rattle.channel_client.specs.declared.caller.Caller.{Caller}
use Rattle.domain_controller.specs.State.{State as ControllerState}
use Rattle.domain_controller.specs.Trusting.{trust_caller}
use Rattle.domain_controller.specs.declared.state.Running.{Running}
use Rattle.domain_controller.specs.declared.trusting.Trusting.{Trusting}
use Rattle.world_moves.specs.Ends.{fresh_controller}
use Rattle.world_moves.specs.World.{first_controllers}
use Rattle.domain_world.specs.Past.{trust_asker, trust_asker_on}
use Rattle.domain_world.proofs.Moves.MarkPlaceLaws.{got_map}
use Rattle.wire_base.proofs.ListLaws.{got_nothing, no_some, some_is}

-- nothing was asked of it yet
pub record IsUnused (s : Requester) : Type 0 where
  pub caller : Caller
  pub is : fresh_requester caller ≡ s

mapped_unused : (table : AccountTable) (name : List ℕ) (trusts : List Trust) (k : ℕ) (s : Requester) →
    slice_get (map (λ (trust : Trust). fresh_requester (trust_caller table name trust)) trusts) k ≡ Some s → IsUnused s
mapped_unused table name trusts k s there =
    let found = got_map (λ (trust : Trust). fresh_requester (trust_caller table name trust)) trusts k s there in
    record { caller = trust_caller table name found.0; is = found.2 }

pub fresh_unused : (hands_on seals : Bool) (table : AccountTable) (name : List ℕ) (k : ℕ) (s : Requester) →
    slice_get (fresh_controller hands_on seals table name).trusting.queues.requesters k ≡ Some s → IsUnused s
fresh_unused true true table name k s there = mapped_unused table name table.trusts k s there
fresh_unused false true table name k s there = mapped_unused table name table.trusts k s there
fresh_unused true false table name k s there = mapped_unused table name table.trusts k s there
fresh_unused false false table name k s there = absurd (got_nothing k s there)

-- of each controller of a world at first
pub first_unused : (hands_on seals : Bool) (tables : List AccountTable) (names : List (List ℕ)) (at : ℕ) (c : ControllerState) →
    slice_get (first_controllers hands_on seals tables names) at ≡ Some c → (k : ℕ) (s : Requester) → slice_get c.trusting.queues.requesters k ≡ Some s → IsUnused s
first_unused hands_on seals [] names at c there k s got = absurd (got_nothing at c there)
first_unused hands_on seals (table ∷ tables) [] at c there k s got = absurd (got_nothing at c there)
first_unused hands_on seals (table ∷ tables) (name ∷ names) zero c there k s got =
    let is : fresh_controller hands_on seals table name ≡ c = some_is (fresh_controller hands_on seals table name) c there in
    fresh_unused hands_on seals table name k s (subst (λ (one : ControllerState). slice_get one.trusting.queues.requesters k ≡ Some s) (sym is) got)
first_unused hands_on seals (table ∷ tables) (name ∷ names) (suc at) c there k s got = first_unused hands_on seals tables names at c there k s got

-- ---- who asks there

-- it is among those that the controller keeps
pub asker_kept : (r : Option Running) (trust : ℕ) (t : Trusting) (s : Requester) → trust_asker_on r trust t ≡ Some s → slice_get t.queues.requesters trust ≡ Some s
asker_kept None trust t s is = absurd (no_some s is)
asker_kept (Some running) trust t s is = is

pub asker_found : (found : Option ControllerState) (trust : ℕ) (s : Requester) → ((c : ControllerState) → found ≡ Some c → (k : ℕ) (one : Requester) →
    slice_get c.trusting.queues.requesters k ≡ Some one → IsUnused one) → trust_asker found trust ≡ Some s → IsUnused s
asker_found None trust s each is = absurd (no_some s is)
asker_found (Some c) trust s each is = each c refl trust s (asker_kept c.running trust c.trusting s is)
