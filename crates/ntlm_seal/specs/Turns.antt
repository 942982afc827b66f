-- One unit at a time: what one side of a session sends, the other takes. This project's own way to say that two
-- sessions stay in step.
use Rattle.std.specs.Prelude.{◌≡◌, ℕ, List, Ok}
use Rattle.ntlm_seal.specs.Directions.{combine, signature_of, next_of}
use Rattle.ntlm_seal.specs.Sessions.{SessionState, Sealing, Judgement, seal_of, judge_of, open_of}
use Rattle.ntlm_seal.specs.Runs.{Follows}

-- two sessions in step: neither refused, and each sends in the direction in which the other receives
pub record Paired (one other : SessionState) : Type 0 where
  pub there : Follows one other
  pub back : Follows other one

-- the session that sent its next unit, and the one that took it: the other direction is as it was. A unit that is
-- signed alone has from = to = 0.
abbrev pub after_sending : SessionState → ℕ → ℕ → SessionState
after_sending s from to = record s { sending = next_of s.sending from to }

abbrev pub after_taking : SessionState → ℕ → ℕ → SessionState
after_taking s from to = record s { receiving = next_of s.receiving from to }

-- what sealing answers and leaves where it doesn't refuse, and opening or checking
abbrev pub sealing_done : SessionState → List ℕ → ℕ → ℕ → Sealing
sealing_done s unit from to = record {
  answer = Ok (signature_of s.sending unit from to);
  unit = combine s.sending unit from to;
  session = after_sending s from to;
}

abbrev pub taking_done : SessionState → ℕ → ℕ → Judgement
taking_done s from to = record { answer = Ok tt; session = after_taking s from to }

-- what one side seals, the other opens to the same bytes, and both are in step again
pub record OpensAgain (one other : SessionState) (unit : List ℕ) (from to : ℕ) : Type 0 where
  pub sealed : seal_of one unit from to ≡ sealing_done one unit from to
  pub opened :
      open_of other (combine one.sending unit from to) from to (signature_of one.sending unit from to)
      ≡ taking_done other from to
  pub same : combine other.receiving (combine one.sending unit from to) from to ≡ unit
  pub paired : Paired (after_sending one from to) (after_taking other from to)

-- what one side signs, the other accepts, and both are in step again; the unit is untouched
pub record IsAccepted (one other : SessionState) (unit : List ℕ) : Type 0 where
  pub signed : seal_of one unit 0 0 ≡ sealing_done one unit 0 0
  pub checked :
      judge_of other unit 0 0 (signature_of one.sending unit 0 0) ≡ taking_done other 0 0
  pub untouched : combine one.sending unit 0 0 ≡ unit
  pub paired : Paired (after_sending one 0 0) (after_taking other 0 0)
