use Rattle.std.proofs.Common.{◌≡◌, ℕ, List, [], ◌∷◌, ◌++◌, ap, ◌∙◌, append_assoc}
use Rattle.hex.specs.Hex.{encode_lower}
use Rattle.account_table.specs.Secrets.{line_of}
use Rattle.account_table.proofs.accounts.put_secret.Goals as goal

-- four pieces, one behind the other
joined : (old name digits one two three four : List ℕ) (space newline : ℕ) → one ≡ old ++ name → two ≡ one ++ space ∷ [] → three ≡ two ++ digits → four ≡ three ++ newline ∷ [] → four ≡ old ++ (name ++ (space ∷ (digits ++ newline ∷ [])))
joined old name digits one two three four space newline a b c d =
    rw (d, c, b, a) (simp append_assoc)

pub returns : goal.returns
unfolding line_of
returns c =
    joined c.args.text.now.items c.args.name.now (encode_lower c.args.hash.now) _ _ _ _ 32 10
    c.in_ok-extend_from_slice.ensures.items
    c.in_ok-push.ensures.items
    (c.in_ok-extend_from_slice-2.ensures.items ∙ ap (λ (digits : List ℕ). c.push.new.self.items ++ digits) (c.as_bytes.ensures.value ∙ c.in_ok-encode.ensures ∙ ap encode_lower c.as_slice.ensures))
    c.in_ok-push-2.ensures.items
