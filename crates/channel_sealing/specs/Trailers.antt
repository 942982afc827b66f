-- The trailers of units on a secure channel that seals, and what the bind of such a channel tells (MS-RPCE 2.2.2.11;
-- MS-NRPC 2.2.1.3.1 and 3.3). The context number of a trailer tells apart the security contexts of one link (MS-RPCE
-- 2.2.2.11). Which number the side that binds gives is this project's own choice; the side that answers writes that of
-- the bind's trailer.
use Rattle.std.specs.Prelude.{ℕ, List, [], ◌∷◌, ◌++◌, replicate, max, ◌-◌, Some, ◌+◌}
use Rattle.rpc_units.specs.Numbers.{privacy_level}
use Rattle.rpc_units.specs.declared.unit.Trailer.{Trailer}
use Rattle.rpc_units.specs.declared.unit.Syntax.{Syntax}
use Rattle.rpc_units.specs.declared.unit.Unit.{Unit as RpcUnit}
use Rattle.rpc_units.specs.declared.unit.Body.{Body}
use Rattle.rpc_units.specs.declared.unit.Body.TheVariants.{Auth3, Bind, BindAck, BindNak, Fault, Request, Response}
use Rattle.end_links.specs.Binding.{ack_of, bind_of, limit_of}

-- Netlogon as a security provider (RPC_C_AUTHN_NETLOGON, MS-RPCE 2.2.1.1.7)
abbrev pub netlogon_provider : ℕ
netlogon_provider = 68

-- the context number of the trailers of the side that binds
abbrev pub own_context : ℕ
own_context = 1

-- a trailer of Netlogon with a context number and a value, at the level at which stubs are sealed
abbrev pub trailer_of : (context : ℕ) (value : List ℕ) → Trailer
trailer_of context value = record { kind = netlogon_provider; level = privacy_level; context = context; value = value }

-- ---- binds

-- NL_AUTH_MESSAGE (MS-NRPC 2.2.1.3.1): a request 0, with the names 3 that follow; the domain's and the computer's
-- NetBIOS names, in ASCII, each ended by a zero
abbrev pub bind_value_of : List ℕ → List ℕ → List ℕ
bind_value_of domain computer =
    (0 ∷ 0 ∷ 0 ∷ 0 ∷ []) ++ (3 ∷ 0 ∷ 0 ∷ 0 ∷ []) ++ (domain ++ 0 ∷ []) ++ (computer ++ 0 ∷ [])

-- a bind that tells so
abbrev pub sealed_bind_of : Syntax → ℕ → List ℕ → RpcUnit
sealed_bind_of interface call value = record (bind_of interface call) { trailer = Some (trailer_of own_context value) }

-- NL_AUTH_MESSAGE of the answer: a response 1, and no names
abbrev pub ack_value : List ℕ
ack_value = (1 ∷ 0 ∷ 0 ∷ 0 ∷ []) ++ replicate 8 0

-- the least limit of a sealed link: the 1,432 bytes that each end receives, and 16 of a signature beyond those for
-- which the limit of a fragment leaves room
abbrev pub least_sealed_limit : ℕ
least_sealed_limit = 1432 + 16

-- the limit of a sealed link, for a peer that receives `receive` bytes
abbrev pub sealed_link_limit : (receive : ℕ) → ℕ
sealed_link_limit receive = max least_sealed_limit (limit_of receive)

abbrev pub with_limit : (limit : ℕ) (body : Body) → Body
with_limit limit (BindAck send receive group results) = BindAck limit receive group results
with_limit limit (Bind send receive group contexts) = Bind send receive group contexts
with_limit limit (BindNak reason) = BindNak reason
with_limit limit Auth3 = Auth3
with_limit limit (Request hint context opnum stub) = Request hint context opnum stub
with_limit limit (Response hint context stub) = Response hint context stub
with_limit limit (Fault hint context status) = Fault hint context status

-- an answer that sends by that limit, with that trailer
abbrev pub with_ack : RpcUnit → (limit : ℕ) (trailer : Trailer) → RpcUnit
with_ack unit limit trailer = record unit { body = with_limit limit unit.body; trailer = Some trailer }

-- the answer to a bind of a channel that seals, with a trailer of that context number: the link sends by its limit
abbrev pub sealed_ack_of : (served : Syntax) (call receive : ℕ) (contexts : List (ℕ × Syntax × List Syntax)) (context : ℕ) → RpcUnit
sealed_ack_of served call receive contexts context =
    with_ack (ack_of served call receive contexts) (sealed_link_limit receive) (trailer_of context ack_value)

-- ---- calls and replies

-- a call or reply with room for a signature, in a trailer of that context
abbrev pub with_room : (context : ℕ) (unit : RpcUnit) → RpcUnit
with_room context unit = record unit { trailer = Some (trailer_of context (replicate 32 0)) }

-- the limit by which a sealed call is cut, for a peer that receives `receive` bytes: it is that of the link, less the
-- 16 bytes that a signature is longer than the one that cutting leaves room for
abbrev pub sealed_limit : (receive : ℕ) → ℕ
sealed_limit receive = sealed_link_limit receive - 16
