use Rattle.std.proofs.Common.{arith}
use Rattle.ntlm_messages.specs.declared.pairs.PairsRefused.TheVariants.{Memory}
use Rattle.ntlm_messages.specs.Pairs.{IsPairs, IsPairsRefusal, ArePairs, pairs_of}
use Rattle.ntlm_messages.proofs.FieldLaws.{found_from, only_from, refused_from}
use Rattle.ntlm_messages.proofs.PairsLaws.{pairs_of_found, pairs_of_only, pairs_of_refused, no_refusal}
use Rattle.ntlm_messages.proofs.pairs.read_pairs.Goals as goal

pub returns-clause-found : goal.returns-clause-found
returns-clause-found c = found_from Memory c.checked_pairs.result (pairs_of c.args.bytes.now) (IsPairs c.args.bytes.now) c.checked_pairs.ensures.exact (λ pairs e. pairs_of_found c.args.bytes.now pairs (λ i. omega (arith, c.type_inv.bytes i)) e)

pub returns-clause-only : goal.returns-clause-only
returns-clause-only c = λ pairs h. only_from Memory c.checked_pairs.result (pairs_of c.args.bytes.now) pairs c.checked_pairs.ensures.exact (pairs_of_only c.args.bytes.now pairs h)

pub returns-clause-refused : goal.returns-clause-refused
returns-clause-refused c = refused_from Memory c.checked_pairs.result (pairs_of c.args.bytes.now) (IsPairsRefusal c.args.bytes.now) c.checked_pairs.ensures.exact (no_refusal c.args.bytes.now)
    (λ refused e. pairs_of_refused c.args.bytes.now refused (λ i. omega (arith, c.type_inv.bytes i)) e)

pub returns-clause-writable : goal.returns-clause-writable
returns-clause-writable c = found_from Memory c.checked_pairs.result (pairs_of c.args.bytes.now) ArePairs c.checked_pairs.ensures.exact
    (λ pairs e. (pairs_of_found c.args.bytes.now pairs (λ i. omega (arith, c.type_inv.bytes i)) e).items)
