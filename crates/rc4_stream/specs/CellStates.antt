-- The state that the code's record holds.
use Rattle.rc4_stream.specs.Rc4.{State}
use Rattle.rc4_stream.specs.declared.state.Cells.{Cells}

abbrev pub state_of : Cells → State
state_of c = record { table = c.table; i = c.i; j = c.j }
