-- Units of one fragment are whole, and so are calls and replies whose stubs are short enough; and the units of a stream
-- of bytes are bytes. It serves `sends_are_whole`, and laws of what ends send.
use Rattle.std.proofs.Common.{◌≡◌, ℕ, ◌<◌, ◌≤◌, ◌^◌, nat_lt, Bool, true, false, List, [], ◌∷◌, ◌++◌, length, map, append_assoc, None, Some, Ok, refl, sym, ap, subst, ◌∙◌, arith, append-nil}
use Rattle.std.specs.List.{AllByRecursion, flat_map, list_all}
use Rattle.std.proofs.lemmas.Bool.{ltb-true}
use Rattle.std.proofs.lemmas.List.Sums.{AllPass-from_list_all}
use Rattle.std.proofs.Math.Seq.{drop-append_seam, take-append_seam}
use Rattle.wire_base.specs.Numbers.{AreBytes}
use Rattle.wire_base.proofs.NumberLaws.{AreBytes-drop, AreBytes-take, bytes_from_all}
use Rattle.rpc_units.specs.declared.unit.Syntax.{Syntax}
use Rattle.rpc_units.specs.declared.unit.Unit.{Unit as RpcUnit}
use Rattle.rpc_units.specs.Calls.{CanBeSent, bytes_of_call}
use Rattle.rpc_units.specs.Joining.{answer_of, cut_of, joined_of, stub_of}
use Rattle.rpc_units.specs.Stream.{cut_stream}
use Rattle.rpc_units.specs.Writing.{HasAnswer, IsSendable, written}
use Rattle.rpc_units.proofs.CutStreamLaws.{cut_is_stream, cut_written}
use Rattle.rpc_units.proofs.CuttingLaws.{call_heard}
use Rattle.rpc_units.proofs.ShortLaws.{written_short}
use Rattle.rpc_units.proofs.WritingLaws.{unit_of-written}
use Rattle.rpc_units.specs.Numbers.{ndr_syntax}
use Rattle.end_links.specs.Binding.{ack_of, answer_by, answer_to, bind_of, limit_of, nak_of, no_syntax}
use Rattle.end_links.specs.Sending.{fault_of, frames_of, joined_frames, request_of, response_of}
use Rattle.end_links.specs.Whole.{IsWholeSend, UnitsAreWhole, whole_limit}
use Rattle.end_links.proofs.BindingLaws.{ack_short, bind_short, bind_writable}
use Rattle.end_links.proofs.ByteLaws.{IsAnswer, IsOfBytes, IsSyntax, call_bytes, written_bytes}
use Rattle.end_links.proofs.BoundLaws.{frames_joined, plain_short}

-- ---- the units of a stream of bytes, and its rest

front_bytes : (front rest : List ℕ) → AreBytes (front ++ rest) → AreBytes front
front_bytes front rest are = subst AreBytes (take-append_seam front rest) (AreBytes-take (length front) (front ++ rest) are)

rest_bytes : (front rest : List ℕ) → AreBytes (front ++ rest) → AreBytes rest
rest_bytes front rest are = subst AreBytes (drop-append_seam front rest) (AreBytes-drop (length front) (front ++ rest) are)

parts_bytes : (units : List (List ℕ)) (rest : List ℕ) → AreBytes (flat_map (λ unit. unit) units ++ rest) → AllByRecursion AreBytes units × AreBytes rest
parts_bytes [] rest are = (tt, are)
parts_bytes (unit ∷ units) rest are =
    let joined : AreBytes (unit ++ (flat_map (λ u. u) units ++ rest)) = subst AreBytes (append_assoc unit (flat_map (λ u. u) units) rest) are in
    let more = parts_bytes units rest (rest_bytes unit (flat_map (λ u. u) units ++ rest) joined) in
    ((front_bytes unit (flat_map (λ u. u) units ++ rest) joined, more.0), more.1)

pub cut_bytes : (stream : List ℕ) → AreBytes stream → AllByRecursion AreBytes (cut_stream stream).units × AreBytes (cut_stream stream).rest
cut_bytes stream are = parts_bytes (cut_stream stream).units (cut_stream stream).rest (subst AreBytes (cut_is_stream stream).whole are)

-- ---- units of one fragment

pub single_whole : (unit : RpcUnit) → IsSendable unit → IsOfBytes unit → answer_of None unit ≡ Ok (Some unit) → IsWholeSend (written unit)
single_whole unit can of is = record {
  are = written_bytes unit of;
  frames = unit ∷ [];
  unit = unit;
  heard = record {
    stream = ap cut_stream (sym (append-nil (written unit))) ∙ cut_written (unit ∷ []) (can, tt);
    read = ap (λ (r : _). r ∷ []) (unit_of-written unit can.writable can.range can.short);
    joined = is;
  };
  few = omega (arith, can.short);
}

pub limit_bounds : (receive : ℕ) → (1432 ≤ limit_of receive) × (limit_of receive ≤ 5840)
limit_bounds receive = (omega arith, omega arith)

-- bytes, as a test tells it
pub syntax_of_bytes : (syntax : Syntax) → list_all (λ (byte : ℕ). nat_lt byte 256) syntax.uuid ≡ true → IsSyntax syntax
syntax_of_bytes syntax is = bytes_from_all syntax.uuid (λ i d within. ltb-true _ _ (AllPass-from_list_all (λ (byte : ℕ). nat_lt byte 256) syntax.uuid is i d within))

pub bind_whole : (interface : Syntax) (call : ℕ) → length interface.uuid ≡ 16 → AreBytes interface.uuid → interface.version < 2 ^ 32 → call < 2 ^ 32 → IsWholeSend (written (bind_of interface call))
unfolding joined_of
bind_whole interface call uuid are version number =
    single_whole (bind_of interface call) (record {
      writable = bind_writable interface call;
      range = record { call = number; body = (omega arith, omega arith, omega arith, ((omega arith, (uuid, version), ((refl, omega arith), tt)), tt)); trailer = tt };
      short = bind_short interface call uuid;
    }) (((are, (syntax_of_bytes ndr_syntax refl, tt)), tt), tt) refl

pub fault_whole : (call context status : ℕ) → call < 2 ^ 32 → context < 2 ^ 16 → status < 2 ^ 32 → IsWholeSend (written (fault_of call context status))
unfolding joined_of
fault_whole call context status number small known =
    single_whole (fault_of call context status) (record {
      writable = record { pieces = (refl, refl); counts = tt; value = tt };
      range = record { call = number; body = (omega arith, small, known); trailer = tt };
      short = written_short (fault_of call context status) refl tt;
    }) (tt, tt) refl

pub nak_whole : (call : ℕ) → call < 2 ^ 32 → IsWholeSend (written (nak_of call))
unfolding joined_of
nak_whole call number =
    single_whole (nak_of call) (record {
      writable = record { pieces = (refl, refl); counts = tt; value = tt };
      range = record { call = number; body = omega arith; trailer = tt };
      short = written_short (nak_of call) refl tt;
    }) (tt, tt) refl

answer_of_bytes : (same ndr : Bool) → IsAnswer (answer_by same ndr)
answer_of_bytes false ndr = syntax_of_bytes no_syntax refl
answer_of_bytes true false = syntax_of_bytes no_syntax refl
answer_of_bytes true true = syntax_of_bytes ndr_syntax refl

pub answers_of_bytes : (served : Syntax) (contexts : List (ℕ × Syntax × List Syntax)) → AllByRecursion IsAnswer (map (answer_to served) contexts)
answers_of_bytes served [] = tt
answers_of_bytes served (context ∷ contexts) = (answer_of_bytes _ _, answers_of_bytes served contexts)

one_answer : (same ndr : Bool) → HasAnswer (answer_by same ndr)
one_answer false ndr = (omega arith, omega arith, (refl, omega arith))
one_answer true false = (omega arith, omega arith, (refl, omega arith))
one_answer true true = (omega arith, omega arith, (refl, omega arith))

answers_fit : (served : Syntax) (contexts : List (ℕ × Syntax × List Syntax)) → AllByRecursion HasAnswer (map (answer_to served) contexts)
answers_fit served [] = tt
answers_fit served (context ∷ contexts) = (one_answer _ _, answers_fit served contexts)

pub ack_whole : (served : Syntax) (call receive : ℕ) (contexts : List (ℕ × Syntax × List Syntax)) → call < 2 ^ 32 → length contexts ≤ 242 → IsWholeSend (written (ack_of served call receive contexts))
unfolding joined_of
ack_whole served call receive contexts number few =
    single_whole (ack_of served call receive contexts) (record {
      writable = record { pieces = (refl, refl); counts = tt; value = tt };
      range = record { call = number; body = (omega (arith, (limit_bounds receive).1), omega arith, omega arith, answers_fit served contexts); trailer = tt };
      short = written_short (ack_of served call receive contexts) refl (ack_short served call receive contexts few);
    }) (answers_of_bytes served contexts, tt) refl

-- ---- calls and replies

call_whole : (unit : RpcUnit) (limit : ℕ) → CanBeSent unit limit → unit.trailer ≡ None → length (stub_of unit.body) ≤ whole_limit → IsOfBytes unit → IsWholeSend (bytes_of_call unit limit)
call_whole unit limit can none few of = record {
  are = call_bytes unit limit of;
  frames = cut_of unit limit;
  unit = unit;
  heard = call_heard unit limit can (omega (arith, few));
  few = omega (arith, plain_short unit limit can.whole none can.least, few);
}

pub reply_whole : (call context limit : ℕ) (stub : List ℕ) → call < 2 ^ 32 → context < 2 ^ 16 → 1432 ≤ limit → limit ≤ 5840 → length stub ≤ whole_limit →
    AreBytes stub → IsWholeSend (bytes_of_call (response_of call context stub) limit)
reply_whole call context limit stub number small least most few are =
    call_whole (response_of call context stub) limit (record {
      whole = record { stub = tt; first = refl; last = refl };
      range = record { call = number; body = (omega (arith, few), small); trailer = tt };
      value = tt;
      least = least;
      room = omega (arith, most);
    }) refl few (are, tt)

pub request_whole : (call context opnum limit : ℕ) (stub : List ℕ) → call < 2 ^ 32 → context < 2 ^ 16 → opnum < 2 ^ 16 → 1432 ≤ limit → limit ≤ 5840 → length stub ≤ whole_limit →
    AreBytes stub → IsWholeSend (joined_frames (frames_of (request_of call context opnum stub) limit))
request_whole call context opnum limit stub number small known least most few are =
    subst IsWholeSend (sym (frames_joined (request_of call context opnum stub) limit))
    (call_whole (request_of call context opnum stub) limit (record {
      whole = record { stub = tt; first = refl; last = refl };
      range = record { call = number; body = (omega (arith, few), small, known); trailer = tt };
      value = tt;
      least = least;
      room = omega (arith, most);
    }) refl few (are, tt))

pub units_are_whole : UnitsAreWhole
units_are_whole = record {
  bind = bind_whole;
  ack = ack_whole;
  nak = nak_whole;
  fault = fault_whole;
  request = request_whole;
  response = reply_whole;
}
