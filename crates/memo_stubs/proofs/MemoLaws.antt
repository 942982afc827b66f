-- What is put of each stub is of its layout, and what is written is read.
use Rattle.std.proofs.Common.{◌≡◌, ℕ, ◌+◌, ◌*◌, List, length, Result, Ok, IfOk, refl, sym, subst, arith}
use Rattle.std.proofs.lemmas.Bool.{le-leb, leb-true}
use Rattle.wire_base.specs.Memory.{UpToMemory}
use Rattle.wire_base.specs.Numbers.{AreBytes}
use Rattle.wire_base.specs.Units.{AreUnits}
use Rattle.wire_base.proofs.MemoryLaws.{UpToMemory-found, UpToMemory-same}
use Rattle.ndr_codec.specs.Layout.{long, raw}
use Rattle.ndr_codec.specs.Parts.{FitsText}
use Rattle.ndr_codec.specs.Stub.{Begins, HasLayout, WritesBy, parsed_by}
use Rattle.ndr_codec.specs.Writing.{Written, nothing, put}
use Rattle.ndr_codec.proofs.PartLaws.{it, then, end, where_true, from_place, within, text_law, IsStub, stub_of}
use Rattle.ndr_codec.proofs.StubLaws.{parsed-Is, parsed_again}
use Rattle.memo_stubs.specs.declared.refused.MemoRefused.{MemoRefused}
use Rattle.memo_stubs.specs.declared.refused.MemoRefused.TheVariants.{Memory}
use Rattle.memo_stubs.specs.Memo.{Layout, memo_refused, status_zero, who_reply, echo_request, echo_reply, FitsEcho, put_who_reply, put_echo_request, put_echo_reply, written_who_reply, written_echo_request, written_echo_reply}

-- ---- what is read is what the stub begins with, and the other way round

module _ {T : Type 0} (layout : Layout T) (stub : List ℕ) (are : AreBytes stub) where
  pub parsed-Begins : (value : T) → parsed_by memo_refused (λ v. v) layout stub ≡ Ok value → Begins layout value stub
  parsed-Begins value e = parsed-Is memo_refused (λ v. Begins layout v stub) (λ v. v) layout stub value are (λ v begins. begins) e

  pub Begins-parsed : (value : T) → Begins layout value stub → parsed_by memo_refused (λ v. v) layout stub ≡ Ok value
  Begins-parsed value begins = parsed_again memo_refused (λ v. v) layout stub value are begins

  -- what holds of all that lies there by the layout holds of what is read
  pub answer_holds : (Is : T → Type 0) → ((value : T) → Begins layout value stub → Is value) → (answer : Result T MemoRefused) → UpToMemory Memory answer (parsed_by memo_refused (λ v. v) layout stub) → IfOk answer Is
  answer_holds Is holds answer exact = UpToMemory-found Memory answer _ Is (λ value e. holds value (parsed-Begins value e)) exact

  -- what is read lies in front of the stub by the layout
  pub answer_found : (answer : Result T MemoRefused) → UpToMemory Memory answer (parsed_by memo_refused (λ v. v) layout stub) → IfOk answer (λ value. Begins layout value stub)
  answer_found answer exact = answer_holds (λ value. Begins layout value stub) (λ value begins. begins) answer exact

  -- what lies there by the layout is read, unless memory runs out
  pub answer_only : (answer : Result T MemoRefused) → UpToMemory Memory answer (parsed_by memo_refused (λ v. v) layout stub) → (value : T) → Begins layout value stub → UpToMemory Memory answer (Ok value)
  answer_only answer exact value begins = UpToMemory-same Memory answer _ _ (Begins-parsed value begins) exact

-- ---- what lies there by the layout of an Echo can be written as an Echo

request_has : (place : ℕ) (bytes found : List ℕ) → HasLayout echo_request place bytes found → FitsEcho bytes
unfolding echo_request
request_has place bytes found is = omega (arith, leb-true is.head 4096 is.rest_is.0, is.rest_is.1.0)

reply_has : (place : ℕ) (bytes found : List ℕ) → HasLayout echo_reply place bytes found → FitsEcho bytes
unfolding echo_reply
reply_has place bytes found is = subst FitsEcho (sym is.rest_is.rest_is.0) (request_has _ _ _ is.head_is)

pub request_fits : (stub bytes : List ℕ) → Begins echo_request bytes stub → FitsEcho bytes
request_fits stub bytes begins = request_has 0 bytes _ begins.has_layout

pub reply_fits : (stub bytes : List ℕ) → Begins echo_reply bytes stub → FitsEcho bytes
reply_fits stub bytes begins = reply_has 0 bytes _ begins.has_layout

-- ---- what is put is of its layout

status_zero_law : (old : Written) → WritesBy status_zero tt 7 old (put long 0 old)
unfolding status_zero
status_zero_law old = from_place (then (it long 0 old (omega arith) tt) (where_true refl (end tt _)))

who_law : (name : List ℕ) (old : Written) → FitsText name → AreUnits name → WritesBy who_reply name (24 + 2 * length name) old (put_who_reply name old)
unfolding who_reply put_who_reply
who_law name old fits are = within _ (omega arith) (then (text_law name old fits are) (then (status_zero_law _) (end _ _)))

echo_request_law : (bytes : List ℕ) (old : Written) → FitsEcho bytes → AreBytes bytes → WritesBy echo_request bytes (7 + length bytes) old (put_echo_request bytes old)
unfolding echo_request put_echo_request
echo_request_law bytes old fits are =
    from_place (then (it long (length bytes) old (omega (arith, fits)) tt) (where_true (le-leb (length bytes) 4096 fits) (it (raw (length bytes)) bytes _ refl are)))

echo_reply_law : (bytes : List ℕ) (old : Written) → FitsEcho bytes → AreBytes bytes → WritesBy echo_reply bytes (14 + length bytes) old (put_echo_reply bytes old)
unfolding echo_reply put_echo_reply
echo_reply_law bytes old fits are = within _ (omega arith) (then (echo_request_law bytes old fits are) (then (status_zero_law _) (end _ _)))

-- ---- whole stubs

pub who_stub : (name : List ℕ) → FitsText name → AreUnits name → IsStub (Begins who_reply name) (24 + 2 * length name) (written_who_reply name)
unfolding written_who_reply
who_stub name fits are = stub_of _ (λ begins. begins) (who_law name nothing fits are)

pub request_stub : (bytes : List ℕ) → FitsEcho bytes → AreBytes bytes → IsStub (Begins echo_request bytes) (7 + length bytes) (written_echo_request bytes)
unfolding written_echo_request
request_stub bytes fits are = stub_of _ (λ begins. begins) (echo_request_law bytes nothing fits are)

pub reply_stub : (bytes : List ℕ) → FitsEcho bytes → AreBytes bytes → IsStub (Begins echo_reply bytes) (14 + length bytes) (written_echo_reply bytes)
unfolding written_echo_reply
reply_stub bytes fits are = stub_of _ (λ begins. begins) (echo_reply_law bytes nothing fits are)

-- a stub that begins with a value is read as that value
pub stub_again : {T : Type 0} (layout : Layout T) (value : T) (size : ℕ) (stub : List ℕ) → IsStub (Begins layout value) size stub → parsed_by memo_refused (λ v. v) layout stub ≡ Ok value
stub_again layout value size stub s = Begins-parsed layout stub s.are_bytes value s.is
