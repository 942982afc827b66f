-- The calls that ask for something on a secure channel, taken apart (MS-NRPC 3.1.4.5, 3.5.4.4.6, 3.5.4.5.3,
-- 3.5.4.5.4).
use Rattle.std.specs.Prelude.{ℕ, Bool, true, false, List, Option, Some}
use Rattle.wire_base.specs.declared.authenticator.Authenticator.{Authenticator}
use Rattle.logon_stubs.specs.declared.calls.LogonCall.{LogonCall}
use Rattle.interactive_logon.specs.declared.calls.InteractiveCall.{InteractiveCall}
use Rattle.controller_calls.specs.declared.calls.JudgedCall.{JudgedCall}
use Rattle.controller_calls.specs.declared.calls.JudgedCall.TheVariants.{Network, Interactive, Logoff, NetworkLogoff, Set}
use Rattle.controller_calls.specs.declared.calls.Asked.{Asked}
use Rattle.controller_calls.specs.declared.calls.Asked.TheVariants as asked

-- the computer that a call names
abbrev pub computer_named : JudgedCall → Option (List ℕ)
computer_named (Network c) = c.computer
computer_named (Interactive c) = c.computer
computer_named (Logoff c) = c.computer
computer_named (NetworkLogoff c) = c.computer
computer_named (Set c) = Some c.computer

-- a call's authenticator
abbrev pub given_in : JudgedCall → Option Authenticator
given_in (Network c) = c.authenticator
given_in (Interactive c) = c.authenticator
given_in (Logoff c) = c.authenticator
given_in (NetworkLogoff c) = c.authenticator
given_in (Set c) = Some c.authenticator

-- what it asks
abbrev pub asked_of : JudgedCall → Asked
asked_of (Network c) = asked.Network c.info c.validation
asked_of (Interactive c) = asked.Interactive c.info c.validation
asked_of (Logoff c) = asked.Logoff c.info
asked_of (NetworkLogoff c) = asked.NetworkLogoff
asked_of (Set c) = asked.Set c.account c.channel c.hidden

-- whether a call asks for another secret
abbrev pub is_set : JudgedCall → Bool
is_set (Network c) = false
is_set (Interactive c) = false
is_set (Logoff c) = false
is_set (NetworkLogoff c) = false
is_set (Set c) = true

-- ---- what is said of one kind of call: of the others nothing is said

abbrev pub IfNetwork : (LogonCall → Type 0) → JudgedCall → Type 0
IfNetwork Fact (Network c) = Fact c
IfNetwork Fact (Interactive c) = Unit {0}
IfNetwork Fact (Logoff c) = Unit {0}
IfNetwork Fact (NetworkLogoff c) = Unit {0}
IfNetwork Fact (Set c) = Unit {0}

abbrev pub IfInteractive : (InteractiveCall → Type 0) → JudgedCall → Type 0
IfInteractive Fact (Network c) = Unit {0}
IfInteractive Fact (Interactive c) = Fact c
IfInteractive Fact (Logoff c) = Unit {0}
IfInteractive Fact (NetworkLogoff c) = Unit {0}
IfInteractive Fact (Set c) = Unit {0}
