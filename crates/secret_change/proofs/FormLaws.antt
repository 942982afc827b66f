-- A text is read exactly where it has the form of its secrets, and what is written has it.
use Rattle.std.proofs.Common.{◌≡◌, ◌⊎◌, ℕ, Bool, true, false, List, [], ◌∷◌, ◌++◌, length, take, drop, Option, Some, None, Result, Ok, Err, inl, inr, refl, ap, sym, subst, ◌∙◌, arith, length-append}
use Rattle.std.proofs.lemmas.Bool.{eqb-true, ne_eqb, le-leb}
use Rattle.std.proofs.lemmas.List.{drop_at, take_at, append_assoc, append-nil, take-append-drop}
use Rattle.std.specs.Prelude.{◌==◌, nat_le}
use Rattle.hex.specs.Hex.{encode_lower, lower_digits, decode_sized}
use Rattle.hex.specs.declared.error.FromHexError.{FromHexError}
use Rattle.hex.proofs.HexLemmas.{length-encode_with, decode_of-ok, decode_sized-ok, decode_sized-twice, decode_sized-encode_lower}
use Rattle.secret_change.specs.declared.secrets.Next.{Next}
use Rattle.secret_change.specs.Secrets.{SecretsState, alone, untried_next, newline, line_of, next_line, written_secrets, Line, behind_by, behind_newline, line_with, line_if, first_line, two_at_end, two_by, one_or_two, secrets_by, secrets_of, untry, reread, IsLine, IsLineEnd, HasFormBy, HasForm, IsSecret, IsNextSecret, AreSecrets}

-- ---- what stands behind the digits of a line

-- nothing, or a newline and the rest
abbrev Behind : List ℕ → List ℕ → Type 0
Behind behind rest = ((behind ≡ []) × (rest ≡ [])) ⊎ (behind ≡ newline ∷ rest)

-- a line's parts are those of the line that is found
record IsFound (secret behind : List ℕ) (line : Line) : Type 0 where
  secret_is : secret ≡ line.secret
  behind_is : Behind behind line.rest

some_line : (one other : Line) → Some one ≡ Some other → one ≡ other
some_line one other e = cc

found_by : (secret rest : List ℕ) (byte : ℕ) (test : Bool) (line : Line) → (byte == newline) ≡ test → line_with secret (behind_by test rest) ≡ Some line → IsFound secret (byte ∷ rest) line
found_by secret rest byte true line is e =
    let same : record { secret = secret; rest = rest } ≡ line = some_line _ _ e in
    record {
      secret_is = ap (λ (l : Line). l.secret) same;
      behind_is = inr (ap (λ n. n ∷ rest) (eqb-true byte newline is) ∙ ap (λ (l : Line). newline ∷ l.rest) same);
    }
found_by secret rest byte false line is e = absurd (let none : ⊥ = cc in none)

found_behind : (secret behind : List ℕ) (line : Line) → line_with secret (behind_newline behind) ≡ Some line → IsFound secret behind line
found_behind secret [] line e =
    let same : record { secret = secret; rest = [] } ≡ line = some_line _ _ e in
    record { secret_is = ap (λ (l : Line). l.secret) same; behind_is = inl (refl, sym (ap (λ (l : Line). l.rest) same)) }
found_behind secret (byte ∷ rest) line e = found_by secret rest byte (byte == newline) line refl e

found_if : (test : Bool) (digits : Result (List ℕ) FromHexError) (behind : List ℕ) (line : Line) → line_if test digits behind ≡ Some line → (digits ≡ Ok line.secret) × Behind behind line.rest
found_if true (Ok secret) behind line e =
    let f = found_behind secret behind line e in (ap (λ x. Ok x) f.secret_is, f.behind_is)
found_if true (Err refused) behind line e = absurd (let none : ⊥ = cc in none)
found_if false digits behind line e = absurd (let none : ⊥ = cc in none)

found_line : (text : List ℕ) (line : Line) → first_line text ≡ Some line → (decode_sized (take 32 text) 16 ≡ Ok line.secret) × Behind (drop 32 text) line.rest
unfolding first_line
found_line text line e = found_if (nat_le 32 (length text)) (decode_sized (take 32 text) 16) (drop 32 text) line e

-- the line, where that stands behind its digits
is_line : (text secret behind : List ℕ) → decode_sized (take 32 text) 16 ≡ Ok secret → drop 32 text ≡ behind → IsLine text secret behind
is_line text secret behind e b = record {
  digits = take 32 text;
  whole = sym (take-append-drop 32 text) ∙ ap (λ x. take 32 text ++ x) b;
  count = decode_sized-ok (take 32 text) 16 secret e;
  written = e;
}

-- ---- where a line stands it is found

behind_is_found : (secret behind rest : List ℕ) → Behind behind rest → line_with secret (behind_newline behind) ≡ Some (record { secret = secret; rest = rest })
behind_is_found secret behind rest (inl e) =
    ap (λ x. line_with secret (behind_newline x)) e.0 ∙ ap (λ x. Some (record { secret = secret; rest = x })) (sym e.1)
behind_is_found secret behind rest (inr e) = ap (λ x. line_with secret (behind_newline x)) e

line_is_found : (text secret behind rest : List ℕ) → IsLine text secret behind → Behind behind rest → first_line text ≡ Some (record { secret = secret; rest = rest })
unfolding first_line
line_is_found text secret behind rest line b =
    let count : length line.digits ≡ 32 = line.count in
    let front : take 32 text ≡ line.digits = ap (take 32) line.whole ∙ take_at line.digits behind 32 count in
    let end : drop 32 text ≡ behind = ap (drop 32) line.whole ∙ drop_at line.digits behind 32 count in
    let long : nat_le 32 (length text) ≡ true = le-leb 32 (length text) (omega (arith, ap length line.whole, length-append line.digits behind)) in
    ap (λ t. line_if t (decode_sized (take 32 text) 16) (drop 32 text)) long
    ∙ ap (λ x. line_if true (decode_sized x 16) (drop 32 text)) front
    ∙ ap (λ x. line_if true x (drop 32 text)) line.written
    ∙ ap (λ x. line_if true (Ok secret) x) end
    ∙ behind_is_found secret behind rest b

-- ---- from what is read to the form

no_items : (xs : List ℕ) → (length xs == 0) ≡ true → xs ≡ []
no_items [] e = refl
no_items (x ∷ xs) e = absurd (let n : length (x ∷ xs) ≡ 0 = eqb-true (length (x ∷ xs)) 0 e in omega arith)

some_state : (one other : SecretsState) → Some one ≡ Some other → one ≡ other
some_state one other e = cc

-- nothing is left behind the line
ends : (behind rest : List ℕ) → Behind behind rest → rest ≡ [] → IsLineEnd behind
ends behind rest (inl e) none = inl e.0
ends behind rest (inr e) none = inr (e ∙ ap (λ x. newline ∷ x) none)

-- something is left
goes_on : (behind rest : List ℕ) → Behind behind rest → (length rest == 0) ≡ false → behind ≡ newline ∷ rest
goes_on behind rest (inl e) some = absurd (let none : (length rest == 0) ≡ true = ap (λ xs. length xs == 0) e.1 in let both : true ≡ false = sym none ∙ some in cc)
goes_on behind rest (inr e) some = e

form_of_second : (text : List ℕ) (first second : Line) (test : Bool) (s : SecretsState) → decode_sized (take 32 text) 16 ≡ Ok first.secret → drop 32 text ≡ newline ∷ first.rest → first_line first.rest ≡ Some second → (length second.rest == 0) ≡ test → two_at_end test first.secret second.secret ≡ Some s → HasForm text s
form_of_second text first second true s e b found none is =
    let f = found_line first.rest second found in
    let two : HasForm text (record { current = first.secret; next = Some (untried_next second.secret) }) =
    (record { end = drop 32 first.rest; is_end = ends (drop 32 first.rest) second.rest f.1 (no_items second.rest none); second = first.rest; first = is_line text first.secret (newline ∷ first.rest) e b; second_line = is_line first.rest second.secret (drop 32 first.rest) f.0 refl }, refl) in
    subst (HasForm text) (some_state _ _ is) two
form_of_second text first second false s e b found none is = absurd (let no_one : ⊥ = cc in no_one)

form_of_two : (text : List ℕ) (first : Line) (o : Option Line) (s : SecretsState) → decode_sized (take 32 text) 16 ≡ Ok first.secret → drop 32 text ≡ newline ∷ first.rest → first_line first.rest ≡ o → two_by first.secret o ≡ Some s → HasForm text s
form_of_two text first None s e b found is = absurd (let no_one : ⊥ = cc in no_one)
form_of_two text first (Some second) s e b found is = form_of_second text first second (length second.rest == 0) s e b found refl is

form_of_first : (text : List ℕ) (first : Line) (test : Bool) (s : SecretsState) → first_line text ≡ Some first → (length first.rest == 0) ≡ test → one_or_two test first.secret first.rest ≡ Some s → HasForm text s
form_of_first text first true s found none is =
    let f = found_line text first found in
    let one : HasForm text (alone first.secret) =
    record { end = drop 32 text; is_end = ends (drop 32 text) first.rest f.1 (no_items first.rest none); line = is_line text first.secret (drop 32 text) f.0 refl } in
    subst (HasForm text) (some_state _ _ is) one
form_of_first text first false s found some is =
    let f = found_line text first found in
    form_of_two text first (first_line first.rest) s f.0 (goes_on (drop 32 text) first.rest f.1 some) refl is

form_of : (text : List ℕ) (o : Option Line) (s : SecretsState) → first_line text ≡ o → secrets_by o ≡ Some s → HasForm text s
form_of text None s found is = absurd (let no_one : ⊥ = cc in no_one)
form_of text (Some first) s found is = form_of_first text first (length first.rest == 0) s found refl is

pub read_has_form : (text : List ℕ) (s : SecretsState) → secrets_of text ≡ Some s → HasForm text s
unfolding secrets_of
read_has_form text s e = form_of text (first_line text) s refl e

-- ---- from the form to what is read

at_end : (end : List ℕ) → IsLineEnd end → Behind end []
at_end end (inl e) = inl (e, refl)
at_end end (inr e) = inr e

-- a line isn't nothing
more_than_none : (line secret end : List ℕ) → IsLine line secret end → (length line == 0) ≡ false
more_than_none line secret end l =
    ne_eqb (length line) 0 (λ (none : length line ≡ 0). let n = ap length l.whole in let c : length l.digits ≡ 32 = l.count in omega (arith, length-append l.digits end))

formed : (text current : List ℕ) (next : Option Next) → HasFormBy text current next → secrets_of text ≡ Some (record { current = current; next = next })
unfolding secrets_of
formed text current None form = ap secrets_by (line_is_found text current form.end [] form.line (at_end form.end form.is_end))
formed text current (Some n) form =
    let two = form.0 in
    ap secrets_by (line_is_found text current (newline ∷ two.second) two.second two.first (inr refl))
    ∙ ap (λ t. one_or_two t current two.second) (more_than_none two.second n.secret two.end two.second_line)
    ∙ ap (two_by current) (line_is_found two.second n.secret two.end [] two.second_line (at_end two.end two.is_end))
    ∙ ap (λ t. Some (record { current = current; next = Some (record { secret = n.secret; is_tried = t }) })) (sym form.1)

pub form_is_read : (text : List ℕ) (s : SecretsState) → HasForm text s → secrets_of text ≡ Some s
form_is_read text s form = formed text s.current s.next form

-- ---- what is written

is_written : (secret end : List ℕ) → IsSecret secret → IsLine (encode_lower secret ++ end) secret end
is_written secret end is = record {
  digits = encode_lower secret;
  whole = refl;
  count = omega (arith, length-encode_with lower_digits secret, is.0);
  written = decode_sized-encode_lower secret 16 is.0 is.1;
}

has_written_form : (current : List ℕ) (next : Option Next) → IsSecret current → IsNextSecret next → HasFormBy (line_of current ++ next_line next) current (untry next)
has_written_form current None c n =
    let line : IsLine (line_of current) current (newline ∷ []) = is_written current (newline ∷ []) c in
    record { end = newline ∷ []; is_end = inr refl; line = subst (λ x. IsLine x current (newline ∷ [])) (sym (append-nil (line_of current))) line }
has_written_form current (Some next) c n =
    let second : List ℕ = line_of next.secret in
    let whole : encode_lower current ++ (newline ∷ second) ≡ line_of current ++ second = sym (append_assoc (encode_lower current) (newline ∷ []) second) in (
      record {
        end = newline ∷ [];
        is_end = inr refl;
        second = second;
        first = subst (λ x. IsLine x current (newline ∷ second)) whole (is_written current (newline ∷ second) c);
        second_line = is_written next.secret (newline ∷ []) n;
      },
      refl,
    )

pub written_is_read : (s : SecretsState) → AreSecrets s → secrets_of (written_secrets s) ≡ Some (reread s)
unfolding written_secrets
written_is_read s are = form_is_read (line_of s.current ++ next_line s.next) (reread s) (has_written_form s.current s.next are.0 are.1)

-- ---- what is read is secrets

line_secret : (line secret end : List ℕ) → IsLine line secret end → IsSecret secret
line_secret line secret end l =
    let count : length l.digits ≡ 32 = l.count in
    let ok = decode_of-ok l.digits secret (sym (decode_sized-twice l.digits 16 (omega arith)) ∙ l.written) in
    (omega (arith, ok.2), ok.3)

form_secrets : (text current : List ℕ) (next : Option Next) → HasFormBy text current next → IsSecret current × IsNextSecret next
form_secrets text current None form = (line_secret text current form.end form.line, tt)
form_secrets text current (Some n) form = (line_secret text current (newline ∷ form.0.second) form.0.first, line_secret form.0.second n.secret form.0.end form.0.second_line)

pub read_is_secrets : (text : List ℕ) (s : SecretsState) → secrets_of text ≡ Some s → AreSecrets s
read_is_secrets text s e = form_secrets text s.current s.next (read_has_form text s e)
