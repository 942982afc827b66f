use Rattle.std.proofs.Common.{◌≡◌, ℕ, List, Some, sym, ◌∙◌}
use Rattle.std.proofs.lemmas.Result.{IfOk-weaker}
use Rattle.rpc_units.specs.Stream.{stream_of, IsStream}
use Rattle.rpc_units.specs.declared.refused.UnitRefused.TheVariants.{Memory}
use Rattle.rpc_units.proofs.PieceLaws.{read_stands}
use Rattle.rpc_units.proofs.RefusalLaws.{stream_memory}
use Rattle.rpc_units.proofs.stream.read_stream.Goals as goal

pub returns-clause-stream : goal.returns-clause-stream
returns-clause-stream c =
    IfOk-weaker c.take_pieces.result _ (λ read. (rest : List ℕ) × IsStream (stream_of c.args.pieces.now) read.0 rest) (λ read is. read_stands (stream_of c.args.pieces.now) read.0 read.1 is) c.take_pieces.ensures

pub returns-clause-memory : goal.returns-clause-memory
returns-clause-memory c =
    IfOk-weaker c.take_pieces.result _ (λ read. read.1 ≡ Some Memory → ⊥) (λ read is tells. stream_memory (stream_of c.args.pieces.now) (sym is.why ∙ tells)) c.take_pieces.ensures
