-- The binding of a link: which contexts are accepted, and the answer to a bind (C706 12.6.3.1, 12.6.4.3 to 12.6.4.5).
-- Which limit a fragment has, which group and which address are told, is this project's own choice.
use Rattle.std.specs.Prelude.{ℕ, ◌≡◌, ◌==◌, ◌&&◌, Bool, true, false, List, [], ◌∷◌, map, replicate, min, max, None, bytes_eq}
use Rattle.std.specs.List.{list_any}
use Rattle.rpc_units.specs.declared.unit.Syntax.{Syntax}
use Rattle.rpc_units.specs.declared.unit.Unit.{Unit as RpcUnit}
use Rattle.rpc_units.specs.declared.unit.Body.TheVariants.{Bind, BindAck, BindNak}
use Rattle.rpc_units.specs.Numbers.{ndr_syntax}
use Rattle.end_links.specs.Agreed.{Agreed, accepts}

-- ---- the answer to a context: result, reason, transfer syntax

abbrev pub same_syntax : Syntax → Syntax → Bool
same_syntax one other = bytes_eq one.uuid other.uuid && (one.version == other.version)

abbrev pub offers_ndr : List Syntax → Bool
offers_ndr syntaxes = list_any (λ syntax. same_syntax syntax ndr_syntax) syntaxes

-- the transfer syntax of a refused context
abbrev pub no_syntax : Syntax
no_syntax = record { uuid = replicate 16 0; version = 0 }

-- whether the abstract syntax is the one that is served, and whether NDR is among the transfer syntaxes: acceptance 0,
-- or provider_rejection 2 for the reason abstract_syntax_not_supported 1 or proposed_transfer_syntaxes_not_supported 2
abbrev pub answer_by : Bool → Bool → ℕ × ℕ × Syntax
answer_by false ndr = (2, 1, no_syntax)
answer_by true false = (2, 2, no_syntax)
answer_by true true = (0, 0, ndr_syntax)

abbrev pub answer_to : Syntax → ℕ × Syntax × List Syntax → ℕ × ℕ × Syntax
answer_to served context = answer_by (same_syntax context.1 served) (offers_ndr context.2)

abbrev pub is_accepted : Syntax → ℕ × Syntax × List Syntax → Bool
is_accepted served context = same_syntax context.1 served && offers_ndr context.2

-- ---- what the bind agreed on

abbrev pub kept_if : Bool → ℕ → List ℕ → List ℕ
kept_if true id ids = id ∷ ids
kept_if false id ids = ids

-- the ids of the accepted contexts, in order
abbrev pub accepted_ids : Syntax → List (ℕ × Syntax × List Syntax) → List ℕ
accepted_ids served [] = []
accepted_ids served (context ∷ contexts) = kept_if (is_accepted served context) context.0 (accepted_ids served contexts)

-- the most bytes of a fragment, for a peer that receives so many: 5,840 or fewer, and at least 1,432
abbrev pub limit_of : ℕ → ℕ
limit_of receive = max 1432 (min 5840 receive)

abbrev pub binding_of : Syntax → ℕ → List (ℕ × Syntax × List Syntax) → Agreed
binding_of served receive contexts = record { contexts = accepted_ids served contexts; limit = limit_of receive }

-- ---- the units

-- the answer to a bind: this end sends fragments of at most that limit, receives 5,840 bytes, is of group 1, and
-- answers each context in its place
abbrev pub ack_of : Syntax → ℕ → ℕ → List (ℕ × Syntax × List Syntax) → RpcUnit
ack_of served call receive contexts = record {
  first = true;
  last = true;
  call = call;
  body = BindAck (limit_of receive) 5840 1 (map (answer_to served) contexts);
  trailer = None;
}

-- the refusal of a bind, for no reason that is told (reason_not_specified 0)
abbrev pub nak_of : ℕ → RpcUnit
nak_of call = record { first = true; last = true; call = call; body = BindNak 0; trailer = None }

-- the bind of the side that dials: both sizes 5,840, no group, one context of id 0 with NDR as its one transfer syntax
abbrev pub bind_of : Syntax → ℕ → RpcUnit
bind_of interface call = record {
  first = true;
  last = true;
  call = call;
  body = Bind 5840 5840 0 ((0, interface, ndr_syntax ∷ []) ∷ []);
  trailer = None;
}

-- ---- laws

-- The answers to contexts and what is accepted of them agree: a context is accepted where its answer's result is 0, and
-- an id where a context of it is; a context is accepted only for the syntax that is served.
pub record ContextsAnswered : Type 0 where
  pub result : (served : Syntax) (context : ℕ × Syntax × List Syntax) → is_accepted served context ≡ ((answer_to served context).0 == 0)
  pub ids : (served : Syntax) (receive : ℕ) (contexts : List (ℕ × Syntax × List Syntax)) (id : ℕ) →
      accepts (binding_of served receive contexts) id ≡ list_any (λ context. (context.0 == id) && is_accepted served context) contexts
  pub served : (served : Syntax) (context : ℕ × Syntax × List Syntax) → is_accepted served context ≡ true →
      (same_syntax context.1 served ≡ true) × (offers_ndr context.2 ≡ true)
