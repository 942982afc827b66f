use Rattle.std.proofs.Common.{suc, length, arith, inr}
use Rattle.std.proofs.lemmas.Result.{err_from_is_err_and}
use Rattle.ntlm_messages.specs.Pairs.{pairs_of}
use Rattle.ntlm_messages.proofs.PairsLaws.{starts, goes_on, is_done, is_refused}
use Rattle.ntlm_messages.proofs.pairs.copy_pairs.Goals as goal

pub loop-pairs-init : goal.loop-pairs-init
loop-pairs-init c = record {
  within = omega arith;
  so_far = (suc (length c.args.bytes.now), omega arith, rw c.new-pairs.ensures (starts c.args.bytes.now));
}

pub returns-in_err-id : goal.returns-in_err-id
returns-in_err-id c =
    let p = err_from_is_err_and c.from_residual.result c.from_residual.ensures.1 in
    let i = c.loop-pairs.invariant.so_far in
    rw (p.1, p.2) (inr (is_refused c.loop-pairs.pairs i.0 _ c.loop-pairs.rest.now c.in_err-id.field-0.0 (pairs_of c.args.bytes.now) i.1 c.in_err-id.ensures.value i.2))

pub returns-then-id-eq0 : goal.returns-then-id-eq0
returns-then-id-eq0 c =
    let i = c.loop-pairs.invariant.so_far in
    is_done c.loop-pairs.pairs i.0 _ c.loop-pairs.rest.now c.in_ok-id.id c.in_ok-id.value.now c.in_ok-id.after.now (pairs_of c.args.bytes.now) i.1
    c.in_ok-id.ensures.value c.if-id-eq0.true i.2

pub loop-pairs-preserved : goal.loop-pairs-preserved
loop-pairs-preserved c =
    let i = c.loop-pairs.invariant.so_far in
    let shorter = c.in_ok-id.ensures.shorter in
    record {
      within = omega (arith, shorter, c.loop-pairs.invariant.within);
      so_far = rw (c.in_ok-push.ensures.appended, c.in_ok-copy.ensures)
          (goes_on c.loop-pairs.pairs i.0 (length c.args.bytes.now) c.loop-pairs.rest.now c.in_ok-id.id c.in_ok-id.value.now c.in_ok-id.after.now (pairs_of c.args.bytes.now) i.1
          c.loop-pairs.invariant.within c.in_ok-id.ensures.value c.if-id-eq0.false shorter i.2);
    }
