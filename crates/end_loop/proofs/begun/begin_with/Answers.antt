use Rattle.std.proofs.Common.{rules}
use Rattle.end_loop.proofs.BegunLaws.{begun_ok, begun_made, begun_err, begun_short}
use Rattle.end_loop.proofs.begun.begin_with.Goals as goal

pub serve-requires-clause-made : goal.serve-requires-clause-made
serve-requires-clause-made g c =
    begun_made g.E.End.machine _ c.items.result.now c.in-Ok.ensures.ok.0 c.new-queue.result.items _ _ _ _ _ _ _ _ _ (search rules) c.in-Ok.ensures.ok.1

pub returns-in-Err-clause-halts : goal.returns-in-Err-clause-halts
returns-in-Err-clause-halts g c =
    begun_short _ _ _ c.items.result.now _ _ c.in-Err.ensures.err.0 _ _ _ _ _ _ _ _ _ _ _ _ _ (search rules) c.in-Err.ensures.kinds c.in-Err.ensures.err.1

pub returns-clause-ends : goal.returns-clause-ends
returns-clause-ends g c =
    begun_ok _ _ _ c.items.result.now _ _ _ c.in-Ok.ensures.ok.0 c.new-queue.result.items _ _ _ _ _ _ _ _ _ _ _ _ c.serve.result (search rules) (search rules) c.in-Ok.ensures.ok.1 c.serve.ensures.ends

pub returns-clause-halts : goal.returns-clause-halts
returns-clause-halts g c =
    begun_err _ _ _ c.items.result.now _ _ c.in-Ok.ensures.ok.0 c.new-queue.result.items _ _ _ _ _ _ _ _ _ _ _ _ c.serve.result (search rules) (search rules) c.in-Ok.ensures.ok.1 c.serve.ensures.halts
