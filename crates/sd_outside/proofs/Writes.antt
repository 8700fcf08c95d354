-- What a write in several turns does to the bytes that a stream tells.
use Rattle.std.proofs.Common.{◌≡◌, ℕ, ◌-◌, List, [], ◌++◌, Option, None, Some, Result, Ok, Err, length, take, drop, refl, sym, ap, ◌∙◌, subst}
use Rattle.std.proofs.Math.Seq.{take-length, take-append_seam}
use Rattle.std.proofs.lemmas.List.{append_assoc, append-nil, take-append-drop, length-drop}
use Rattle.std.specs.Result.{result_unwrap_or}
use Rattle.std.specs.Io.KnownBytes.{Appends, Keeps, WriteAppends}
use Rattle.sd_outside.specs.Causes.{AppendsPrefix}

kept : (a b : Option (List ℕ)) → Keeps a b → Appends a b []
kept None b k = tt
kept (Some x) None k = absurd k
kept (Some x) (Some y) k = k ∙ sym (append-nil x)

-- a write that failed took nothing
pub took : {E : Type 0} (a b : Option (List ℕ)) (r : Result ℕ E) (rest : List ℕ) → WriteAppends a b r rest → Appends a b (take (result_unwrap_or r 0) rest)
took a b (Ok n) rest w = w
took a b (Err e) rest w = kept a b w

pub joined : (a b c : Option (List ℕ)) (xs ys : List ℕ) → Appends a b xs → Appends b c ys → Appends a c (xs ++ ys)
joined None b c xs ys p q = tt
joined (Some x) None c xs ys p q = absurd p
joined (Some x) (Some y) None xs ys p q = absurd q
joined (Some x) (Some y) (Some z) xs ys p q = q ∙ ap (λ l. l ++ ys) p ∙ append_assoc x xs ys

-- a write that took none leaves the front that was written before
pub front_written : (a b c : Option (List ℕ)) (bytes front rest : List ℕ) → bytes ≡ front ++ rest → Appends a b front → Appends b c [] → AppendsPrefix a c bytes
front_written a b c bytes front rest e p q =
    let at_seam = ap (take (length front)) e ∙ take-append_seam front rest in
    (length front, subst (Appends a c) (append-nil front ∙ sym at_seam) (joined a b c front [] p q))

-- the front and the rest behind one more write
pub moved_on : (bytes front rest : List ℕ) (k : ℕ) → bytes ≡ front ++ rest → bytes ≡ (front ++ take k rest) ++ take (length rest - k) (drop k rest)
moved_on bytes front rest k e =
    let all : take (length rest - k) (drop k rest) ≡ drop k rest = ap (λ n. take n (drop k rest)) (sym (length-drop k rest)) ∙ take-length (drop k rest) in
    e ∙ ap (λ l. front ++ l) (sym (take-append-drop k rest)) ∙ sym (append_assoc front (take k rest) (drop k rest)) ∙ ap (λ l. (front ++ take k rest) ++ l) (sym all)
