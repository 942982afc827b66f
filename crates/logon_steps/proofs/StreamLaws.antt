-- One unit, and the units of a call, on a link on which nothing else came.
-- Of `turns_go_through`, `turns_step`, `controllers_step`, `clients_and_members_meet`, `links_step`, `clients_step`.
use Rattle.std.proofs.Common.{◌≡◌, ℕ, eqb, Bool, true, false, List, [], ◌∷◌, Option, Some, None, Result, Ok, Err, refl, sym, ap, ◌∙◌, append-nil}
use Rattle.std.proofs.lemmas.Bool.{eq-eqb}
use Rattle.rpc_units.specs.declared.refused.JoinRefused.{JoinRefused}
use Rattle.rpc_units.specs.declared.unit.Unit.{Unit as RpcUnit}
use Rattle.rpc_units.specs.Joining.{answer_by, answer_of, grown, joined_of, kept_by, open_after}
use Rattle.rpc_units.specs.Stream.{cut_stream, with_unit}
use Rattle.rpc_units.specs.Writing.{written, IsSendable}
use Rattle.rpc_units.proofs.CutStreamLaws.{cut_first, cut_waits, cut_written}
use Rattle.rpc_units.proofs.GrammarLaws.{IsUnit-unit_of}
use Rattle.rpc_units.proofs.StreamLaws.{front_of-nil}
use Rattle.rpc_units.proofs.WritingLaws.{unit_of-written}
use Rattle.rpc_units.specs.Reading.{unit_of}
use Rattle.end_links.specs.Serving.{Server, ServedPart, served_by, served_cut, then_open, then_talk}

-- ---- one unit

pub one_unit : (unit : RpcUnit) → IsSendable unit → cut_stream (written unit) ≡ record { units = written unit ∷ []; rest = []; refused = None }
one_unit unit sends = ap cut_stream (sym (append-nil (written unit))) ∙ cut_written (unit ∷ []) (sends, tt)

no_talk : {W T : Type 0} (server : Server W T) (work : W) (talk : Option T) (left : List (List ℕ)) →
    then_talk work talk left (λ later said rest. served_by server [] None later said rest) ≡ Ok (record { value = (work, talk); left = left })
no_talk server work None left = refl
no_talk server work (Some talk) left = refl

no_more : {W T : Type 0} (server : Server W T) (part : ServedPart W T) →
    then_open part (λ later said rest. served_by server [] None later said rest) ≡ part
no_more server (Err why) = refl
no_more server (Ok part) = no_talk server part.value.0 part.value.1 part.left

-- the bytes of a unit are served as that unit
pub served_one : {W T : Type 0} (server : Server W T) (unit : RpcUnit) (work : W) (talk : T) (left : List (List ℕ)) → IsSendable unit →
    served_cut server (cut_stream (written unit)) work talk left ≡ server.unit (written unit) work talk left
served_one server unit work talk left sends =
    ap (λ c. served_cut server c work talk left) (one_unit unit sends) ∙ no_more server (server.unit (written unit) work talk left)

pub read_again : (unit : RpcUnit) → IsSendable unit → unit_of (written unit) ≡ Ok unit
read_again unit sends = unit_of-written unit sends.writable sends.range sends.short

-- bytes that are read as a unit are a stream of just this
pub one_read : (bytes : List ℕ) (unit : RpcUnit) → unit_of bytes ≡ Ok unit → cut_stream bytes ≡ record { units = bytes ∷ []; rest = []; refused = None }
one_read bytes unit read =
    ap cut_stream (sym (append-nil bytes))
    ∙ cut_first bytes [] (record { unit = unit; form = IsUnit-unit_of bytes unit read })
    ∙ ap (with_unit bytes) (cut_waits [] front_of-nil)

pub served_read : {W T : Type 0} (server : Server W T) (bytes : List ℕ) (work : W) (talk : T) (left : List (List ℕ)) →
    served_cut server (record { units = bytes ∷ []; rest = []; refused = None }) work talk left ≡ server.unit bytes work talk left
served_read server bytes work talk left = no_more server (server.unit bytes work talk left)

-- ---- fragments

closes_by : (joined : Result RpcUnit JoinRefused) (last : Bool) (whole call : RpcUnit) → answer_by joined last ≡ Ok (Some call) → kept_by last whole ≡ None
closes_by (Err why) last whole call is = absurd cc
closes_by (Ok unit) true whole call is = refl
closes_by (Ok unit) false whole call is = absurd cc

-- nothing is open behind the last
pub none_open : (so_far : Option RpcUnit) (unit call : RpcUnit) → answer_of so_far unit ≡ Ok (Some call) → open_after so_far unit ≡ None
none_open so_far unit call is = closes_by (joined_of so_far unit) unit.last (grown so_far unit) call is

pub same : (n : ℕ) → eqb n n ≡ true
same n = eq-eqb n n refl
