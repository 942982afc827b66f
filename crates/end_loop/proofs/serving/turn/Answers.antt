use Rattle.end_loop.proofs.RunLaws.{told_alone, same_rises, ask_halts, turned, turn_halts, never_port}
use Rattle.end_loop.proofs.serving.turn.Goals as goal

pub returns-in-Err-clause-halts : goal.returns-in-Err-clause-halts
returns-in-Err-clause-halts g c = ask_halts _ _ _ _ _ _ c.requires.goes_on c.in-Err.ensures.kinds (told_alone _ _ _ _ _ _ _ _ _ c.in-Err.ensures.quiet (same_rises _ _ c.in-Err.ensures.links))

pub returns-clause-turns : goal.returns-clause-turns
returns-clause-turns g c = turned _ _ _ _ _ _ _ _ c.answer.result (told_alone _ _ _ _ _ _ _ _ _ c.in-Ok.ensures.given (same_rises _ _ c.in-Ok.ensures.links)) c.answer.ensures.stop c.answer.ensures.ran

pub returns-clause-halts : goal.returns-clause-halts
returns-clause-halts g c = turn_halts _ _ _ _ _ _ _ c.answer.result (told_alone _ _ _ _ _ _ _ _ _ c.in-Ok.ensures.given (same_rises _ _ c.in-Ok.ensures.links)) c.answer.ensures.part

pub returns-clause-port_cause : goal.returns-clause-port_cause
returns-clause-port_cause g c = λ e. absurd (never_port c.answer.result c.answer.ensures.kinds e)
