-- Answers to contexts.
use Rattle.std.proofs.Common.{◌≡◌, ℕ, ◌≤◌, eqb, Bool, true, false, List, [], ◌∷◌, length, map, refl, sym, ap, subst, ◌∙◌, arith}
use Rattle.std.specs.Prelude.{◌&&◌, ◌||◌}
use Rattle.std.proofs.lemmas.List.{length-append, length-map}
use Rattle.std.specs.List.{AllByRecursion, list_any}
use Rattle.rpc_units.specs.declared.unit.Syntax.{Syntax}
use Rattle.rpc_units.specs.Writing.{zeros, written_syntax, written_syntaxes, written_context, written_body, written, IsShortBody, IsWritable}
use Rattle.rpc_units.specs.Numbers.{ndr_syntax}
use Rattle.std.specs.Int.{w32, to_le_bytes}
use Rattle.rpc_units.proofs.WritingLaws.{length_written}
use Rattle.end_links.specs.Agreed.{has_number}
use Rattle.end_links.specs.Binding.{same_syntax, offers_ndr, answer_by, answer_to, is_accepted, kept_if, accepted_ids, ack_of, bind_of, ContextsAnswered}

-- ---- the answer to a bind is never too long

uuid_len : (same ndr : Bool) → length (answer_by same ndr).2.uuid ≡ 16
uuid_len false ndr = refl
uuid_len true false = refl
uuid_len true true = refl

uuids : (served : Syntax) (contexts : List (ℕ × Syntax × List Syntax)) → AllByRecursion (λ answer. length answer.2.uuid ≡ 16) (map (answer_to served) contexts)
uuids served [] = tt
uuids served (context ∷ contexts) = (uuid_len (same_syntax context.1 served) (offers_ndr context.2), uuids served contexts)

pub ack_short : (served : Syntax) (call receive : ℕ) (contexts : List (ℕ × Syntax × List Syntax)) → length contexts ≤ 242 → IsShortBody (ack_of served call receive contexts).body
ack_short served call receive contexts few =
    (subst (λ n. n ≤ 242) (sym (length-map contexts (answer_to served))) few, uuids served contexts)

pub ack_writable : (served : Syntax) (call receive : ℕ) (contexts : List (ℕ × Syntax × List Syntax)) → IsWritable (ack_of served call receive contexts)
ack_writable served call receive contexts = record { pieces = (refl, refl); counts = tt; value = tt }

-- ---- a bind is never too long

pub bind_writable : (interface : Syntax) (call : ℕ) → IsWritable (bind_of interface call)
bind_writable interface call = record { pieces = (refl, refl); counts = (omega arith, tt); value = tt }

syntax_len : (syntax : Syntax) → length syntax.uuid ≡ 16 → length (written_syntax syntax) ≡ 20
syntax_len syntax is = let both = length-append syntax.uuid (to_le_bytes w32 syntax.version) in omega (arith, both, is)

syntaxes_len : (syntax : Syntax) → length syntax.uuid ≡ 16 → length (written_syntaxes (syntax ∷ [])) ≡ 20
syntaxes_len syntax is = let all = length-append (written_syntax syntax) [] in omega (arith, all, syntax_len syntax is)

context_len : (interface : Syntax) → length interface.uuid ≡ 16 → length (written_context (0, interface, ndr_syntax ∷ [])) ≡ 44
unfolding zeros
context_len interface is =
    let both = length-append (written_syntax interface) (written_syntaxes (ndr_syntax ∷ [])) in
    omega (arith, both, syntax_len interface is, syntaxes_len ndr_syntax refl)

bind_len : (interface : Syntax) (call : ℕ) → length interface.uuid ≡ 16 → length (written_body (bind_of interface call).body) ≤ 5824
unfolding zeros
bind_len interface call is =
    let all = length-append (written_context (0, interface, ndr_syntax ∷ [])) [] in
    omega (arith, all, context_len interface is)

pub bind_short : (interface : Syntax) (call : ℕ) → length interface.uuid ≡ 16 → length (written (bind_of interface call)) ≤ 5840
bind_short interface call is =
    let body = written_body (bind_of interface call).body in
    omega (arith, length_written (bind_of interface call), length-append body [], bind_len interface call is)

-- ---- what is accepted

result_by : (same ndr : Bool) → (same && ndr) ≡ eqb (answer_by same ndr).0 0
result_by false ndr = refl
result_by true false = refl
result_by true true = refl

and_true : (test others : Bool) → (test || others) ≡ ((test && true) || others)
and_true true others = refl
and_true false others = refl

and_false : (test others : Bool) → others ≡ ((test && false) || others)
and_false true others = refl
and_false false others = refl

kept_has : (accepted : Bool) (id number : ℕ) (ids : List ℕ) (others : Bool) → has_number ids number ≡ others →
    has_number (kept_if accepted id ids) number ≡ ((eqb id number && accepted) || others)
kept_has true id number ids others is = ap (λ b. eqb id number || b) is ∙ and_true (eqb id number) others
kept_has false id number ids others is = is ∙ and_false (eqb id number) others

ids_accepted : (served : Syntax) (contexts : List (ℕ × Syntax × List Syntax)) (id : ℕ) →
    has_number (accepted_ids served contexts) id ≡ list_any (λ context. eqb context.0 id && is_accepted served context) contexts
ids_accepted served [] id = refl
ids_accepted served (context ∷ contexts) id =
    kept_has (is_accepted served context) context.0 id (accepted_ids served contexts) _ (ids_accepted served contexts id)

both_true : (one other : Bool) → (one && other) ≡ true → (one ≡ true) × (other ≡ true)
both_true true true is = (refl, refl)
both_true true false is = absurd cc
both_true false other is = absurd cc

pub contexts_answered : ContextsAnswered
contexts_answered = record {
  result = λ served context. result_by (same_syntax context.1 served) (offers_ndr context.2);
  ids = λ served receive contexts id. ids_accepted served contexts id;
  served = λ served context is. both_true (same_syntax context.1 served) (offers_ndr context.2) is;
}
