use Rattle.std.proofs.Common.{suc, [], ◌∷◌, ◌++◌, length, sym, ap, arith}
use Rattle.std.proofs.lemmas.Result.{err_from_is_err_and}
use Rattle.ntlm_messages.specs.Pairs.{pairs_of}
use Rattle.ntlm_messages.proofs.PairsLaws.{judgement, starts, goes_on, is_done, is_refused}
use Rattle.ntlm_messages.proofs.pairs.check_pairs.Goals as goal

pub loop-id-init : goal.loop-id-init
loop-id-init c = record {
  within = omega arith;
  so_far = ([], suc (length c.args.bytes.now), omega arith, starts c.args.bytes.now);
}

pub returns-in_err-id : goal.returns-in_err-id
returns-in_err-id c =
    let p = err_from_is_err_and c.from_residual.result c.from_residual.ensures.1 in
    let i = c.loop-id.invariant.so_far in
    rw (p.1, p.2) (sym (ap judgement (is_refused i.0 i.1 _ c.loop-id.rest.now c.in_err-id.field-0.0 (pairs_of c.args.bytes.now) i.2 c.in_err-id.ensures.value i.3)))

pub returns-then-id-eq0 : goal.returns-then-id-eq0
returns-then-id-eq0 c =
    let i = c.loop-id.invariant.so_far in
    sym (ap judgement (is_done i.0 i.1 _ c.loop-id.rest.now c.in_ok-id.id _ c.in_ok-id.after.now (pairs_of c.args.bytes.now) i.2
    c.in_ok-id.ensures.value c.if-id-eq0.true i.3))

pub loop-id-preserved : goal.loop-id-preserved
loop-id-preserved c =
    let i = c.loop-id.invariant.so_far in
    let shorter = c.in_ok-id.ensures.shorter in
    let next = goes_on i.0 i.1 (length c.args.bytes.now) c.loop-id.rest.now c.in_ok-id.id _ c.in_ok-id.after.now (pairs_of c.args.bytes.now) i.2
    c.loop-id.invariant.within c.in_ok-id.ensures.value c.if-id-eq0.false shorter i.3 in
    record {
      within = omega (arith, shorter, c.loop-id.invariant.within);
      so_far = (i.0 ++ (c.in_ok-id.id, _) ∷ [], next.0, next.1, next.2);
    }
