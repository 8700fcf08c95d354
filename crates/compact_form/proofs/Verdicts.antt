-- A text is read or refused, in one way.
use Rattle.std.proofs.Common.{◌≡◌, ℕ, ◌<◌, ◌≤◌, Bool, true, false, List, length, ap, ◌∙◌, sym, arith}
use Rattle.sd_outside.specs.Limits.{count_max}
use Rattle.refusals.specs.declared.condition.Condition.{Condition}
use Rattle.refusals.specs.Condition.{number_of}
use Rattle.refusals.specs.Faults.{fault_number, unplaced, placed}
use Rattle.refusals.specs.declared.fault.Fault.{Fault}
use Rattle.compact_form.specs.declared.parts.Parts.{Parts}
use Rattle.compact_form.specs.Compact.{IsCompact, IsMisformedAt}
use Rattle.compact_form.specs.Trim.{trimmed, is_too_long}
use Rattle.compact_form.specs.CompactToken.{CompactFails, too_long, form, too_much, IsCompactRefused, ReadsCompact}
use Rattle.compact_form.proofs.Unique.{one_spelling, one_stop}

pub not_both : (text : List ℕ) (parts : Parts) (fault : Fault) → ReadsCompact text parts → IsCompactRefused text fault → ⊥
not_both text parts fault reads refused = reads.passes fault refused.applies

pub one_value : (text : List ℕ) (p q : Parts) → ReadsCompact text p → ReadsCompact text q → p ≡ q
one_value text p q r s = one_spelling p q (trimmed text) r.spelling s.spelling

-- two faults of one number are one
same_number : (text : List ℕ) (f g : Fault) → CompactFails text f → CompactFails text g → f.number ≡ g.number → f ≡ g
same_number text f g (too_long e h) (too_long d k) n = e ∙ sym d
same_number text f g (too_long e h) (form s d k) n = absurd (omega (arith, ap fault_number e, ap fault_number d))
same_number text f g (too_long e h) (too_much p d k l) n = absurd (omega (arith, ap fault_number e, ap fault_number d))
same_number text f g (form s e h) (too_long d k) n = absurd (omega (arith, ap fault_number e, ap fault_number d))
same_number text f g (form s e h) (form t d k) n = e ∙ ap (placed Condition.Form) (one_stop (trimmed text) s t h.longest k.longest) ∙ sym d
same_number text f g (form s e h) (too_much p d k l) n = absurd (omega (arith, ap fault_number e, ap fault_number d))
same_number text f g (too_much p e h i) (too_long d k) n = absurd (omega (arith, ap fault_number e, ap fault_number d))
same_number text f g (too_much p e h i) (form s d k) n = absurd (omega (arith, ap fault_number e, ap fault_number d))
same_number text f g (too_much p e h i) (too_much q d k l) n = e ∙ sym d

pub one_fault : (text : List ℕ) (f g : Fault) → IsCompactRefused text f → IsCompactRefused text g → f ≡ g
one_fault text f g r s = same_number text f g r.applies s.applies (let a = r.lowest g s.applies in let b = s.lowest f r.applies in omega arith)

pub clash : (b : Bool) → b ≡ true → b ≡ false → ⊥
clash b h k = cc

-- condition 2 is the lowest where condition 1 holds
lowest_form : (text : List ℕ) (fault other : Fault) → fault.number ≡ number_of Condition.Form → is_too_long text ≡ false → CompactFails text other → fault.number ≤ other.number
lowest_form text fault other n short (too_long e h) = absurd (clash (is_too_long text) h short)
lowest_form text fault other n short (form s e h) = omega (arith, ap fault_number e)
lowest_form text fault other n short (too_much p e h l) = omega (arith, ap fault_number e)

pub refused_form : (text : List ℕ) (fault : Fault) (stop : ℕ) → fault ≡ placed Condition.Form stop → is_too_long text ≡ false → IsMisformedAt (trimmed text) stop → IsCompactRefused text fault
refused_form text fault stop is short refused = record {
  applies = form stop is refused;
  lowest = λ other fails. lowest_form text fault other (ap fault_number is) short fails;
}

-- condition 3 is the lowest where the text is short enough and has parts
lowest_too_much : (text : List ℕ) (parts : Parts) (fault other : Fault) → fault.number ≡ number_of Condition.TooMuch → is_too_long text ≡ false → IsCompact parts (trimmed text) → CompactFails text other → fault.number ≤ other.number
lowest_too_much text parts fault other n short spelled (too_long e h) = absurd (clash (is_too_long text) h short)
lowest_too_much text parts fault other n short spelled (form s e h) = absurd (h.no_parts parts spelled)
lowest_too_much text parts fault other n short spelled (too_much p e h l) = omega (arith, ap fault_number e)

pub refused_too_much : (text : List ℕ) (fault : Fault) (parts : Parts) → fault ≡ unplaced Condition.TooMuch → is_too_long text ≡ false → IsCompact parts (trimmed text) → count_max < length parts.disclosures
    → IsCompactRefused text fault
refused_too_much text fault parts is short spelled many = record {
  applies = too_much parts is spelled many;
  lowest = λ other fails. lowest_too_much text parts fault other (ap fault_number is) short spelled fails;
}

no_fault : (text : List ℕ) (parts : Parts) (fault : Fault) → is_too_long text ≡ false → IsCompact parts (trimmed text) → length parts.disclosures ≤ count_max → CompactFails text fault → ⊥
no_fault text parts fault short spelled few (too_long e h) = clash (is_too_long text) h short
no_fault text parts fault short spelled few (form s e h) = h.no_parts parts spelled
no_fault text parts fault short spelled few (too_much p e h l) =
    let same : length p.disclosures ≡ length parts.disclosures = ap (λ (q : Parts). length q.disclosures) (one_spelling p parts (trimmed text) h spelled) in
    omega arith

pub reads : (text : List ℕ) (parts : Parts) → is_too_long text ≡ false → IsCompact parts (trimmed text) → length parts.disclosures ≤ count_max → ReadsCompact text parts
reads text parts short spelled few = record { spelling = spelled; passes = λ fault fails. no_fault text parts fault short spelled few fails }
