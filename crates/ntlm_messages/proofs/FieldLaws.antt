-- The parts that the three messages share: the function that reads a part and the relation of the grammar agree.
use Rattle.std.proofs.Common.{◌≡◌, ℕ, ◌+◌, ◌%◌, ◌<◌, ◌≤◌, ◌&&◌, ◌⊎◌, Bool, true, false, cond, eqb, ltb, leb, List, [], ◌∷◌, length, take, drop, Option, Some, None, Result, Ok, Err, refl, sym, ap, subst, ◌∙◌, arith, inl, inr}
use Rattle.std.specs.Prelude.{IsTrue, IsSome, IfOk, IfErr, IsErrOf, OnOk, nat_eq, ◌≢◌, ◌↔◌}
use Rattle.wire_base.specs.Memory.{UpToMemory}
use Rattle.std.specs.List.{starts_with}
use Rattle.std.proofs.lemmas.Bool.{ltb-true, ltb-false, leb-true, leb-false, eqb-true, eqb-false, le-ltb, lt-ltb, le-leb, eq-eqb, ne_eqb, and_parts, and_from, and_cases, and_left, and_right, cases_Bool, both_ways}
use Rattle.std.proofs.lemmas.Slice.Eq.{bytes_eq-Decides}
use Rattle.std.proofs.lemmas.List.{length-take, length-drop, nil_from_length}
use Rattle.ntlm_flags.specs.Flags.{has_flag, negotiate_unicode, negotiate_version}
use Rattle.ntlm_messages.specs.Places.{type_place}
use Rattle.ntlm_messages.specs.declared.refused.Field.{Field}
use Rattle.ntlm_messages.specs.declared.refused.MessageRefused.{MessageRefused}
use Rattle.ntlm_messages.specs.declared.refused.MessageRefused.TheVariants.{ShortHeader, BadSignature, BadType, FieldOutside, OddText, Memory}
use Rattle.ntlm_messages.specs.declared.refused.WriteRefused.{WriteRefused}
use Rattle.ntlm_messages.specs.declared.refused.WriteRefused.TheVariants as write
use Rattle.ntlm_messages.specs.Fields.{◌>>=◌, Shows, IsRefusal, FieldsFit, IsFirstTooLong, lengths_of, form_of, IsOutside, IsInside, bytes_if, version_of, mic_of, length_at, offset_at, IsHeader, header_of, IsField, field_of, IsText, text_of, long_at, signature}

-- two readings one after the other give a value, for a proof that goes on with what the first gives
pub bind_then : {A B E : Type 0} {P : Type 0} (r : Result A E) (f : A → Result B E) (y : B) → (r >>= f) ≡ Ok y → ((x : A) → r ≡ Ok x → f x ≡ Ok y → P) → P
bind_then (Ok x) f y e next = next x refl e
bind_then (Err d) f y e next = absurd cc

abbrev pub done : {A : Type 0} → A → Result A MessageRefused
done x = Ok x

pub ok_is : {A : Type 0} (x y : A) → done x ≡ done y → x ≡ y
ok_is x y e = cc

-- which way a test went
pub chosen : {A : Type 0} (b : Bool) (x y z : A) → cond b x y ≡ z → ((b ≡ true) × (x ≡ z)) ⊎ ((b ≡ false) × (y ≡ z))
chosen true x y z e = inl (refl, e)
chosen false x y z e = inr (refl, e)

-- a test that wasn't failed
pub passed : {A E : Type 0} (b : Bool) (d : E) (x : Result A E) (y : A) → cond b x (Err d) ≡ Ok y → (b ≡ true) × (x ≡ Ok y)
passed true d x y e = (refl, e)
passed false d x y e = absurd cc

pub not_failed : {A E : Type 0} (b : Bool) (d : E) (x : Result A E) (y : A) → cond b (Err d) x ≡ Ok y → (b ≡ false) × (x ≡ Ok y)
not_failed true d x y e = absurd cc
not_failed false d x y e = (refl, e)

-- a step that was refused, or a later one
pub refused_then : {A B E : Type 0} {P : Type 0} (r : Result A E) (f : A → Result B E) (e : E) → (r >>= f) ≡ Err e → (r ≡ Err e → P) → ((x : A) → r ≡ Ok x → f x ≡ Err e → P) → P
refused_then (Ok x) f e given here later = later x refl given
refused_then (Err d) f e given here later = here cc

abbrev pub refusal : (A : Type 0) → MessageRefused → Result A MessageRefused
refusal A e = Err e

pub err_is : (A : Type 0) (d e : MessageRefused) → refusal A d ≡ refusal A e → d ≡ e
err_is A d e given = cc

pub refused_from : {V E : Type 0} (memory : E) (r value : Result V E) (P : E → Type 0) → UpToMemory memory r value → P memory → ((e : E) → value ≡ Err e → P e) → IfErr r P
refused_from memory (Ok v) value P exact free refused = tt
refused_from memory (Err e) value P exact free refused = elim exact [ inl is ↦ subst P (sym is) free | inr is ↦ refused e is ]

-- what an exact answer says in the grammar's terms
pub found_from : {V E : Type 0} (memory : E) (r value : Result V E) (P : V → Type 0) → UpToMemory memory r value → ((v : V) → value ≡ Ok v → P v) → IfOk r P
found_from memory (Ok v) value P exact found = found v exact
found_from memory (Err e) value P exact found = tt

pub only_from : {V E : Type 0} (memory : E) (r value : Result V E) (v : V) → UpToMemory memory r value → value ≡ Ok v → UpToMemory memory r (Ok v)
only_from memory r value v exact only = subst (λ x. UpToMemory memory r x) only exact

-- what holds of the value holds of what shows it
pub shown_found : {X Y E : Type 0} (shown : X → Y) (r : Result X E) (value : Result Y E) (P : Y → Type 0) → Shows shown r value → ((v : Y) → value ≡ Ok v → P v) → IfOk r (λ x. P (shown x))
shown_found shown (Ok x) value P exact found = found (shown x) exact
shown_found shown (Err e) value P exact found = tt

pub shown_only : {X Y E : Type 0} (shown : X → Y) (r : Result X E) (value : Result Y E) (v : Y) → Shows shown r value → value ≡ Ok v → Shows shown r (Ok v)
shown_only shown r value v exact only = subst (λ x. Shows shown r x) only exact

pub shown_refused : {X Y E : Type 0} (shown : X → Y) (r : Result X E) (value : Result Y E) (P : E → Type 0) → Shows shown r value → ((e : E) → value ≡ Err e → P e) → IfErr r P
shown_refused shown (Ok x) value P exact refused = tt
shown_refused shown (Err e) value P exact refused = refused e exact

-- ---- the first twelve bytes

pub header_found : (kind size : ℕ) (bytes : List ℕ) (u : Unit {0}) → header_of kind size bytes ≡ Ok u → IsHeader kind size bytes
unfolding header_of
header_found kind size bytes u e =
    let long = not_failed (ltb (length bytes) size) ShortHeader _ u e in
    let signed = passed (starts_with nat_eq bytes signature) BadSignature _ u long.1 in
    let typed = passed (eqb (long_at bytes type_place) kind) (BadType (long_at bytes type_place)) _ u signed.1 in
    record { whole = ltb-false _ _ long.0; signed = sym ((bytes_eq-Decides signature (take 8 bytes)).0 signed.0); typed = eqb-true _ _ typed.0 }

pub header_only : (kind size : ℕ) (bytes : List ℕ) → IsHeader kind size bytes → header_of kind size bytes ≡ Ok tt
unfolding header_of
header_only kind size bytes h =
    let signed : starts_with nat_eq bytes signature ≡ true = (bytes_eq-Decides signature (take 8 bytes)).1 (sym h.signed) in
    rw (le-ltb _ _ h.whole, signed, eq-eqb _ _ h.typed) refl

-- ---- payload fields

pub field_found : (name : Field) (place size : ℕ) (bytes part : List ℕ) → field_of name place size bytes ≡ Ok part → IsField place size bytes part
unfolding field_of
field_found name place size bytes part e =
    elim (chosen (eqb (length_at bytes place) 0) _ _ (Ok part) e) [
      | inl h ↦
          let part-is = ok_is [] part h.1 in
          let len = eqb-true _ _ h.0 in
          record { len = len ∙ ap length part-is; stands = inl (sym part-is) }
      | inr h ↦
          let inside = passed (leb size (offset_at bytes place) && leb (offset_at bytes place + length_at bytes place) (length bytes)) (FieldOutside name) _ part h.1 in
          let both = and_parts (leb size (offset_at bytes place)) (leb (offset_at bytes place + length_at bytes place) (length bytes)) inside.0 in
          let begins : size ≤ offset_at bytes place = leb-true _ _ both.0 in
          let ends : offset_at bytes place + length_at bytes place ≤ length bytes = leb-true _ _ both.1 in
          let part-is = ok_is (take (length_at bytes place) (drop (offset_at bytes place) bytes)) part inside.1 in
          let len : length (take (length_at bytes place) (drop (offset_at bytes place) bytes)) ≡ length_at bytes place =
          omega (arith, length-take (length_at bytes place) (drop (offset_at bytes place) bytes), length-drop (offset_at bytes place) bytes) in
          let len-is : length_at bytes place ≡ length part = sym len ∙ ap length part-is in
          record { len = len-is; stands = inr (record { begins = begins; ends = omega (arith, len-is, ends); bytes_are = rw (← len-is) part-is }) }
    ]

pub field_only : (name : Field) (place size : ℕ) (bytes part : List ℕ) → IsField place size bytes part → field_of name place size bytes ≡ Ok part
unfolding field_of
field_only name place size bytes part h =
    elim (cases_Bool (eqb (length_at bytes place) 0)) [
      | inl none ↦ rw none (ap (λ (x : List ℕ). done x) (sym (nil_from_length part (sym h.len ∙ eqb-true _ _ none))))
      | inr some ↦
          elim h.stands [
            | inl nil ↦ absurd (eqb-false _ _ some (h.len ∙ ap length nil))
            | inr p ↦
                let inside : (leb size (offset_at bytes place) && leb (offset_at bytes place + length_at bytes place) (length bytes)) ≡ true =
                and_from _ _ (le-leb _ _ p.begins) (le-leb _ _ (omega (arith, h.len, p.ends))) in
                rw (some, inside, h.len, p.bytes_are) refl
          ]
    ]

-- ---- texts

odd_or_even : (n : ℕ) → eqb (n % 2) 1 ≡ false → n % 2 ≡ 0
odd_or_even n e = omega (arith, eqb-false (n % 2) 1 e)

pub text_found : (name : Field) (flags : ℕ) (text : List ℕ) (u : Unit {0}) → text_of name flags text ≡ Ok u → IsText flags text
unfolding text_of
text_found name flags text u e wide =
    let test = not_failed (has_flag flags negotiate_unicode && eqb (length text % 2) 1) (OddText name) _ u e in
    elim (and_cases _ _ test.0) [
      | inl narrow ↦ absurd (both_ways _ narrow wide)
      | inr even ↦ odd_or_even (length text) even
    ]

pub text_only : (name : Field) (flags : ℕ) (text : List ℕ) → IsText flags text → text_of name flags text ≡ Ok tt
unfolding text_of
text_only name flags text h =
    elim (cases_Bool (has_flag flags negotiate_unicode)) [
      | inl wide ↦ rw (and_right (has_flag flags negotiate_unicode) (eqb (length text % 2) 1) (ne_eqb _ _ (omega (arith, h wide)))) refl
      | inr narrow ↦ rw (and_left (has_flag flags negotiate_unicode) (eqb (length text % 2) 1) narrow) refl
    ]

-- ---- refusals

-- which way a test went before a refusal
pub failed : {A E : Type 0} (b : Bool) (d e : E) (x : Result A E) → cond b x (Err d) ≡ Err e → ((b ≡ true) × (x ≡ Err e)) ⊎ ((b ≡ false) × (d ≡ e))
failed true d e x given = inl (refl, given)
failed false d e x given = inr (refl, cc)

-- one of the first three refusals
abbrev pub IsHeaderRefusal : ℕ → ℕ → List ℕ → MessageRefused → Type 0
IsHeaderRefusal kind size bytes ShortHeader = length bytes < size
IsHeaderRefusal kind size bytes BadSignature = (size ≤ length bytes) × (take 8 bytes ≢ signature)
IsHeaderRefusal kind size bytes (BadType found) = (size ≤ length bytes) × (take 8 bytes ≡ signature) × (long_at bytes type_place ≡ found) × (found ≢ kind)
IsHeaderRefusal kind size bytes (FieldOutside name) = ⊥
IsHeaderRefusal kind size bytes (OddText name) = ⊥
IsHeaderRefusal kind size bytes Memory = ⊥

-- the refusal of the header, among all refusals
pub header_is : (kind least size flags : ℕ) (fields texts : List (Field × ℕ)) (bytes : List ℕ) (e : MessageRefused) → IsHeaderRefusal kind least bytes e → IsRefusal kind least size flags fields texts bytes e
header_is kind least size flags fields texts bytes ShortHeader h = h
header_is kind least size flags fields texts bytes BadSignature h = h
header_is kind least size flags fields texts bytes (BadType found) h = h
header_is kind least size flags fields texts bytes (FieldOutside name) h = absurd h
header_is kind least size flags fields texts bytes (OddText name) h = absurd h
header_is kind least size flags fields texts bytes Memory h = absurd h

pub header_refused : (kind size : ℕ) (bytes : List ℕ) (e : MessageRefused) → header_of kind size bytes ≡ Err e → IsHeaderRefusal kind size bytes e
unfolding header_of
header_refused kind size bytes e given =
    elim (cases_Bool (ltb (length bytes) size)) [
      | inl short ↦
          let is : ShortHeader ≡ e = err_is (Unit {0}) ShortHeader e (rw short at given) in
          subst (λ (x : MessageRefused). IsHeaderRefusal kind size bytes x) is (ltb-true _ _ short)
      | inr long ↦
          let whole : size ≤ length bytes = ltb-false _ _ long in
          elim (failed (starts_with nat_eq bytes signature) BadSignature e _ (rw long at given)) [
            | inr h ↦ subst (λ (x : MessageRefused). IsHeaderRefusal kind size bytes x) h.1
                (whole, λ same. both_ways (starts_with nat_eq bytes signature) h.0 ((bytes_eq-Decides signature (take 8 bytes)).1 (sym same)))
            | inl h ↦ elim (failed (eqb (long_at bytes type_place) kind) (BadType (long_at bytes type_place)) e _ h.1) [
              | inl done ↦ absurd cc
              | inr k ↦ subst (λ (x : MessageRefused). IsHeaderRefusal kind size bytes x) k.1
                  (whole, sym ((bytes_eq-Decides signature (take 8 bytes)).0 h.0), refl, eqb-false _ _ k.0)
            ]
          ]
    ]

pub field_refused : (name : Field) (place size : ℕ) (bytes : List ℕ) (e : MessageRefused) → field_of name place size bytes ≡ Err e → (FieldOutside name ≡ e) × IsOutside place size bytes
unfolding field_of
field_refused name place size bytes e given =
    elim (cases_Bool (eqb (length_at bytes place) 0)) [
      | inl none ↦ absurd (let h = rw none at given in cc)
      | inr some ↦ elim (failed (leb size (offset_at bytes place) && leb (offset_at bytes place + length_at bytes place) (length bytes)) (FieldOutside name) e _ (rw some at given)) [
        | inl h ↦ absurd (let k = h.1 in cc)
        | inr h ↦
            let long : 0 < length_at bytes place = omega (arith, eqb-false _ _ some) in (
              h.1,
              (
                long,
                elim (and_cases (leb size (offset_at bytes place)) (leb (offset_at bytes place + length_at bytes place) (length bytes)) h.0) [
                  | inl early ↦ inl (leb-false _ _ early)
                  | inr late ↦ inr (leb-false _ _ late)
                ],
              ),
            )
      ]
    ]

pub text_refused : (name : Field) (flags : ℕ) (text : List ℕ) (e : MessageRefused) → text_of name flags text ≡ Err e → (OddText name ≡ e) × IsTrue (has_flag flags negotiate_unicode) × (length text % 2 ≡ 1)
unfolding text_of
text_refused name flags text e given =
    elim (cases_Bool (has_flag flags negotiate_unicode && eqb (length text % 2) 1)) [
      | inl odd ↦
          let both = and_parts (has_flag flags negotiate_unicode) (eqb (length text % 2) 1) odd in
          (err_is (Unit {0}) (OddText name) e (rw odd at given), both.0, eqb-true _ _ both.1)
      | inr even ↦ absurd (let h = rw even at given in cc)
    ]

-- a field that was taken lies inside
pub inside_from : (place size : ℕ) (bytes part : List ℕ) → IsField place size bytes part → IsInside place size bytes
inside_from place size bytes part f =
    elim f.stands [
      | inl nil ↦ inl (f.len ∙ ap length nil)
      | inr p ↦ inr (p.begins, omega (arith, f.len, p.ends))
    ]

-- ---- what was read can be written

pub there_from : (there : Bool) (place number : ℕ) (bytes : List ℕ) (o : Option (List ℕ)) → bytes_if there place number bytes ≡ o → IsSome o → there ≡ true
there_from true place number bytes o e some = refl
there_from false place number bytes None e some = absurd cc
there_from false place number bytes (Some b) e some = absurd cc

pub version_flag : (flags size gap : ℕ) (bytes : List ℕ) (version : Option (List ℕ)) → version_of flags size gap bytes ≡ version → IsSome version → IsTrue (has_flag flags negotiate_version)
version_flag flags size gap bytes version e some = (and_parts _ _ (there_from _ size 8 bytes version e some)).0

pub mic_version : (flags size gap : ℕ) (bytes : List ℕ) (version mic : Option (List ℕ)) → version_of flags size gap bytes ≡ version → mic_of flags size gap bytes ≡ mic → IsSome mic → IsSome version
mic_version flags size gap bytes version mic is_version is_mic some =
    let both = and_parts (has_flag flags negotiate_version) (leb (size + 24) gap) (there_from _ (size + 8) 16 bytes mic is_mic some) in
    let there : (has_flag flags negotiate_version && leb (size + 8) gap) ≡ true = and_from _ _ both.0 (le-leb _ _ (omega (arith, leb-true (size + 24) gap both.1))) in
    subst (λ (o : Option (List ℕ)). IsSome o) is_version (rw there refl)

-- ---- fields that are too long for the written form

pub lengths_fit : (fields : List (Field × List ℕ)) → FieldsFit fields → lengths_of fields ≡ Ok tt
lengths_fit [] fit = refl
lengths_fit (field ∷ fields) fit = rw (le-ltb 65535 (length field.1) fit.0) (lengths_fit fields fit.1)

pub fields_fit : (fields : List (Field × List ℕ)) (u : Unit {0}) → lengths_of fields ≡ Ok u → FieldsFit fields
fields_fit [] u e = tt
fields_fit (field ∷ fields) u e =
    elim (cases_Bool (ltb 65535 (length field.1))) [
      | inl long ↦ absurd (let h = rw long at e in cc)
      | inr short ↦ (ltb-false 65535 (length field.1) short, fields_fit fields u (rw short at e))
    ]

pub fit_on_ok : (r : Result (Unit {0}) WriteRefused) (fields : List (Field × List ℕ)) → r ≡ lengths_of fields → OnOk r (FieldsFit fields)
fit_on_ok (Ok u) fields e = fields_fit fields u (sym e)
fit_on_ok (Err d) fields e = tt

abbrev long_by : WriteRefused → Result (Unit {0}) WriteRefused
long_by e = Err e

too_long_first : (fields : List (Field × List ℕ)) (name : Field) → lengths_of fields ≡ Err (write.TooLong name) → IsFirstTooLong fields name
too_long_first [] name e = absurd cc
too_long_first (field ∷ fields) name e =
    elim (cases_Bool (ltb 65535 (length field.1))) [
      | inl long ↦
          let is : long_by (write.TooLong field.0) ≡ long_by (write.TooLong name) = rw long at e in
          inl (ltb-true 65535 (length field.1) long, cc)
      | inr short ↦ inr (ltb-false 65535 (length field.1) short, too_long_first fields name (rw short at e))
    ]

first_too_long : (fields : List (Field × List ℕ)) (name : Field) → IsFirstTooLong fields name → lengths_of fields ≡ Err (write.TooLong name)
first_too_long [] name h = absurd h
first_too_long (field ∷ fields) name h =
    elim h [
      | inl here ↦ rw (lt-ltb 65535 (length field.1) here.0, here.1) refl
      | inr later ↦ rw (le-ltb 65535 (length field.1) later.0) (first_too_long fields name later.1)
    ]

-- what an exact answer says of fields that are too long
pub too_long_from : (r : Result (List ℕ) WriteRefused) (fields : List (Field × List ℕ)) (written : List ℕ) → UpToMemory write.Memory r (form_of fields written)
    → ((e : WriteRefused) → form_of fields written ≡ Err e → r ≡ Err e) → (name : Field) → IsErrOf r (write.TooLong name) ↔ IsFirstTooLong fields name
too_long_from r fields written exact refusals name = (to r exact, λ first. refusals (write.TooLong name) (ap (λ (l : Result (Unit {0}) WriteRefused). l >>= λ fits. Ok written) (first_too_long fields name first)))
  where
    to : (r : Result (List ℕ) WriteRefused) → UpToMemory write.Memory r (form_of fields written) → IsErrOf r (write.TooLong name) → IsFirstTooLong fields name
    to (Ok bytes) exact is = absurd cc
    to (Err e) exact is =
        let same : e ≡ write.TooLong name = cc in
        elim exact [
          | inl memory ↦ absurd (let both : write.TooLong name ≡ write.Memory = sym same ∙ memory in cc)
          | inr form ↦ refused_then (lengths_of fields) _ e form (λ h. too_long_first fields name (h ∙ ap long_by same)) (λ fits fits-is more. absurd cc)
        ]

pub written_from : (r : Result (List ℕ) WriteRefused) (fields : List (Field × List ℕ)) (written : List ℕ) → UpToMemory write.Memory r (form_of fields written) → FieldsFit fields → UpToMemory write.Memory r (Ok written)
written_from r fields written exact fit =
    subst (λ (l : Result (Unit {0}) WriteRefused). UpToMemory write.Memory r (l >>= λ fits. Ok written)) (lengths_fit fields fit) exact
