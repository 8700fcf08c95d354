-- What a change of one file does to the content under each name.
use Prim.Native.Nat.{zero}
use Rattle.std.proofs.Common.{◌≡◌, ◌≢◌, ℕ, ◌<◌, suc, List, [], ◌∷◌, ◌++◌, Option, None, Some, length, take, set, get_or, arith, refl, Bool, true, false, cond, sym}
use Rattle.std.specs.Prelude.{bytes_eq}
use Rattle.std.proofs.lemmas.Bool.{false_from_ne_true}
use Rattle.std.proofs.lemmas.Slice.Eq.{bytes_eq-Decides}
use Rattle.sd_outside.specs.Memory.{Files, content_of}

same : (n : List ℕ) → bytes_eq n n ≡ true
same n = (bytes_eq-Decides n n).1 refl

apart : (m n : List ℕ) → n ≢ m → bytes_eq m n ≡ false
apart m n ne = false_from_ne_true (bytes_eq m n) (λ e. ne (sym ((bytes_eq-Decides m n).0 e)))

-- a first choice that isn't taken
passed : (b : Bool) (x y : List ℕ) (o p : Option (List ℕ)) → cond b (Some x) o ≡ None → (o ≡ None → p ≡ Some y) → cond b (Some x) p ≡ Some y
passed true x y o p h k = cc
passed false x y o p h k = k h

pub stored_push : (files : Files) (name content : List ℕ) → content_of files name ≡ None → content_of (files ++ (name, content) ∷ []) name ≡ Some content
stored_push [] name content h = rw (same name) refl
stored_push (file ∷ files) name content h = passed (bytes_eq file.0 name) file.1 content (content_of files name) _ h (stored_push files name content)

pub others_push : (files : Files) (name content other : List ℕ) → other ≢ name → content_of (files ++ (name, content) ∷ []) other ≡ content_of files other
others_push [] name content other ne = rw (apart name other ne) refl
others_push (file ∷ files) name content other ne = rw (others_push files name content other ne) refl

pub stored_set : (files : Files) (i : ℕ) (name content : List ℕ) → i < length files → content_of (take i files) name ≡ None → content_of (set files i (name, content)) name ≡ Some content
stored_set [] i name content l h = absurd (omega arith)
stored_set (file ∷ files) zero name content l h = rw (same name) refl
stored_set (file ∷ files) (suc i) name content l h = passed (bytes_eq file.0 name) file.1 content (content_of (take i files) name) _ h (stored_set files i name content (omega arith))

pub others_set : (files : Files) (i : ℕ) (name content other : List ℕ) → i < length files → (get_or files i (name, content)).0 ≡ name → other ≢ name → content_of (set files i (name, content)) other ≡ content_of files other
others_set [] i name content other l at ne = absurd (omega arith)
others_set (file ∷ files) zero name content other l at ne = rw (at, apart name other ne) refl
others_set (file ∷ files) (suc i) name content other l at ne = rw (others_set files i name content other (omega arith) at ne) refl

next : (b : Bool) (x : List ℕ) (o p : Option (List ℕ)) → cond b (Some x) o ≡ None → (o ≡ None → p ≡ None) → cond b (Some x) p ≡ None
next true x o p h k = h
next false x o p h k = k h

-- no file of that name among the first i, nor at i
pub none_more : (files : Files) (i : ℕ) (d : List ℕ × List ℕ) (name : List ℕ) → i < length files → content_of (take i files) name ≡ None → bytes_eq (get_or files i d).0 name ≡ false → content_of (take (suc i) files) name ≡ None
none_more [] i d name l h e = absurd (omega arith)
none_more (file ∷ files) zero d name l h e = rw e refl
none_more (file ∷ files) (suc i) d name l h e = next (bytes_eq file.0 name) file.1 _ _ h (λ k. none_more files i d name (omega arith) k e)
