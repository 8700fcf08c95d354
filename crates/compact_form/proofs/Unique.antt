-- A text spells at most one value of parts.
use Rattle.std.proofs.lemmas.Bool.{cases_order}
use Rattle.std.proofs.Common.{◌≡◌, ◌⊎◌, inl, inr, ℕ, ◌<◌, List, [], ◌∷◌, ◌++◌, Option, None, Some, length, refl, ap, ◌∙◌, sym, arith, append_assoc, length-append}
use Rattle.std.specs.Prelude.{IfSome}
use Rattle.std.specs.List.{AllByRecursion}
use Rattle.b64url_text.specs.Base64url.{IsWord}
use Rattle.compact_form.specs.declared.parts.JwtParts.{JwtParts}
use Rattle.compact_form.specs.declared.parts.Parts.{Parts}
use Rattle.compact_form.specs.Compact.{jwt, spelled, ending, HasWords, IsCompact, IsStop}
use Rattle.compact_form.proofs.FrontWords.{behind_word}
use Rattle.compact_form.proofs.Runs.{tilde}
use Rattle.compact_form.proofs.Fronts.{front_at}
use Rattle.compact_form.proofs.Built.{same_fronts, jwt_fronts, last_fronts, no_piece}

not_both : (j : JwtParts) (x : List ℕ) → x ≡ [] → x ≡ jwt j → ⊥
not_both j x e f = omega (arith, ap length e, ap length f, length-append j.protected (46 ∷ (j.payload ++ (46 ∷ j.signature))))

same_some : (j k : JwtParts) → j ≡ k → ◌≡◌ {A = Option JwtParts} (Some j) (Some k)
same_some j k e = cc

one_ending : (b c : Option JwtParts) (x : List ℕ) → IfSome b HasWords → IfSome c HasWords → x ≡ ending b → x ≡ ending c → b ≡ c
one_ending None None x v w e f = refl
one_ending None (Some k) x v w e f = absurd (not_both k x e f)
one_ending (Some j) None x v w e f = absurd (not_both j x f e)
one_ending (Some j) (Some k) x v w e f = same_some j k (same_fronts x j k (last_fronts x j v e) (last_fronts x k w f))

record Same (ds es : List (List ℕ)) (b c : Option JwtParts) : Type 0 where
  disclosures : ds ≡ es
  binding : b ≡ c

heads : (d e : List ℕ) (ds es : List (List ℕ)) → d ≡ e → ds ≡ es → d ∷ ds ≡ e ∷ es
heads d e ds es p q = cc

both : (d e : List ℕ) (ds es : List (List ℕ)) (b c : Option JwtParts) → d ≡ e → Same ds es b c → Same (d ∷ ds) (e ∷ es) b c
both d e ds es b c p same = record { disclosures = heads d e ds es p same.disclosures; binding = same.binding }

one_tail : (ds es : List (List ℕ)) (b c : Option JwtParts) (x : List ℕ) → AllByRecursion IsWord ds → AllByRecursion IsWord es → IfSome b HasWords → IfSome c HasWords
    → x ≡ spelled ds ++ ending b → x ≡ spelled es ++ ending c → Same ds es b c
one_tail [] [] b c x v w m n e f = record { disclosures = refl; binding = one_ending b c x m n e f }
one_tail [] (y ∷ es) b c x v w m n e f = absurd (no_piece b x m e (front_at x y (spelled es ++ ending c) 126 w.0.letters tilde (f ∙ simp append_assoc)).byte)
one_tail (d ∷ ds) [] b c x v w m n e f = absurd (no_piece c x n f (front_at x d (spelled ds ++ ending b) 126 v.0.letters tilde (e ∙ simp append_assoc)).byte)
one_tail (d ∷ ds) (y ∷ es) b c x v w m n e f =
    let one = front_at x d (spelled ds ++ ending b) 126 v.0.letters tilde (e ∙ simp append_assoc) in
    let two = front_at x y (spelled es ++ ending c) 126 w.0.letters tilde (f ∙ simp append_assoc) in
    both d y ds es b c (sym one.front ∙ two.front) (one_tail ds es b c (behind_word x) v.1 w.1 m n one.behind two.behind)

abbrev parts_of : JwtParts → List (List ℕ) → Option JwtParts → Parts
parts_of j ds b = record { signed = j; disclosures = ds; binding = b }

same_parts : (j k : JwtParts) (ds es : List (List ℕ)) (b c : Option JwtParts) → j ≡ k → ds ≡ es → b ≡ c → parts_of j ds b ≡ parts_of k es c
same_parts j k ds es b c p q r = cc

pub one_spelling : (p q : Parts) (text : List ℕ) → IsCompact p text → IsCompact q text → p ≡ q
one_spelling p q text is was =
    let one = jwt_fronts text (spelled p.disclosures ++ ending p.binding) p.signed is.signed (is.spelling ∙ simp append_assoc) in
    let two = jwt_fronts text (spelled q.disclosures ++ ending q.binding) q.signed was.signed (was.spelling ∙ simp append_assoc) in
    let tail = one_tail p.disclosures q.disclosures p.binding q.binding (behind_word (behind_word (behind_word text))) is.disclosures was.disclosures is.binding was.binding one.1 two.1 in
    same_parts p.signed q.signed p.disclosures q.disclosures p.binding q.binding (same_fronts text p.signed q.signed one.0 two.0) tail.disclosures tail.binding

not_below : (text : List ℕ) (m n : ℕ) → IsStop text m → IsStop text n → m < n → ⊥
not_below text m n s t lt = s.longest n lt t.within t.begins

ordered : (m n : ℕ) → (m ≡ n) ⊎ ((m < n) ⊎ (n < m)) → (m < n → ⊥) → (n < m → ⊥) → m ≡ n
ordered m n (inl e) h k = e
ordered m n (inr (inl lt)) h k = absurd (h lt)
ordered m n (inr (inr gt)) h k = absurd (k gt)

pub one_stop : (text : List ℕ) (m n : ℕ) → IsStop text m → IsStop text n → m ≡ n
one_stop text m n s t = ordered m n (cases_order m n) (not_below text m n s t) (not_below text n m t s)
