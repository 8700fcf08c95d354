-- A file says one present order, or is refused.
use Rattle.std.proofs.Common.{◌≡◌, ◌≢◌, ℕ, List, Option, Some, None, refl, ap, codes}
use Rattle.std.specs.Prelude.{is_some}
use Rattle.sd_outside.specs.Limits.{file_max}
use Rattle.claim_tree.specs.Tree.{Text}
use Rattle.claim_tree.specs.TreeValues.{IsText}
use Rattle.claim_tree.proofs.TreeValues.{SaysOne, one_text}
use Rattle.file_members.specs.declared.field.Field.TheVariants.{Keys}
use Rattle.file_members.specs.declared.file_fault.FileFault.{FileFault}
use Rattle.file_members.proofs.FileVerdicts as verdicts
use Rattle.hmac_sign.specs.Keys.{IsKeySet}
use Rattle.hmac_sign.specs.KeyText.{IsKeyText}
use Rattle.hmac_sign.proofs.KeySetVerdicts.{one_key_set}
use Rattle.hmac_sign.proofs.KeyTexts.{one_key_text}
use Rattle.key_binding.specs.ShortText.{IsShortText}
use Rattle.verifier_core.proofs.PolicyVersions.{one_short_text}
use Rattle.holder_core.specs.PresentFile.{BindingSaid, IsBindingOrder, both, present_table, IsPresentFile, IsPresentFileRefused}
use Rattle.holder_core.specs.declared.ask.BindingAsk.{BindingAsk}
use Rattle.holder_core.specs.declared.present_file.PresentFile.{PresentFile}
use Rattle.holder_core.proofs.OneObject.{one_members, one_said}
use Rattle.holder_core.proofs.PresentOrders as orders
use Rattle.holder_core.proofs.PresentOrders.{one_order}

one_binding : SaysOne IsBindingOrder
one_binding t b d h k =
    let same = one_members t h.members k.members h.is k.is in
    λ i. (
      record {
        kid = one_said IsText one_text same (codes "kid") b.0.kid d.0.kid h.kid k.kid i;
        aud = one_said IsShortText one_short_text same (codes "aud") b.0.aud d.0.aud h.aud k.aud i;
        nonce = one_said IsShortText one_short_text same (codes "nonce") b.0.nonce d.0.nonce h.nonce k.nonce i;
      },
      one_said IsKeyText one_key_text same (codes "key") b.1 d.1 h.key k.key i,
    )

parts_of : (a b : Option BindingAsk) (k l : Option (List ℕ)) → is_some k ≡ is_some a → is_some l ≡ is_some b → both a k ≡ both b l → (a ≡ b) × (k ≡ l)
parts_of None None None None e f same = (refl, refl)
parts_of None None None (Some l) e f same = absurd (cc f)
parts_of None None (Some k) l e f same = absurd (cc e)
parts_of None (Some b) None None e f same = absurd (cc f)
parts_of None (Some b) None (Some l) e f same = absurd (cc same)
parts_of None (Some b) (Some k) l e f same = absurd (cc e)
parts_of (Some a) b None l e f same = absurd (cc e)
parts_of (Some a) None (Some k) None e f same = absurd (cc same)
parts_of (Some a) None (Some k) (Some l) e f same = absurd (cc f)
parts_of (Some a) (Some b) (Some k) None e f same = absurd (cc f)
parts_of (Some a) (Some b) (Some k) (Some l) e f same =
    let pairs : (a, k) ≡ (b, l) = cc same in
    let first : a ≡ b = ap (λ (p : BindingSaid). p.0) pairs in
    let second : k ≡ l = ap (λ (p : BindingSaid). p.1) pairs in
    (ap Some first, ap Some second)

pub one_present : (bytes : Text) (p q : PresentFile) → IsPresentFile bytes p → IsPresentFile bytes q → p ≡ q
one_present bytes p q h k =
    let one =
    one_order Keys IsKeySet IsBindingOrder one_key_set one_binding bytes h.members k.members h.file k.file p.ask.keys q.ask.keys p.ask.want q.ask.want p.never q.never (both p.ask.binding p.key) (both q.ask.binding q.key)
    (h.keys, h.want, h.never, h.binding) (k.keys, k.want, k.never, k.binding) in
    let parts = parts_of p.ask.binding q.ask.binding p.key q.key h.together k.together one.3 in
    λ i. record { ask = record { keys = one.0 i; want = one.1 i; binding = parts.0 i }; never = one.2 i; key = parts.1 i }

pub not_both : (bytes : Text) (said : PresentFile) (fault : FileFault) → IsPresentFile bytes said → IsPresentFileRefused bytes fault → fault ≡ FileFault.Memory
not_both bytes said fault says = orders.not_both Keys IsKeySet IsBindingOrder bytes fault says.members says.file said.ask.keys said.ask.want said.never (both said.ask.binding said.key) (says.keys, says.want, says.never, says.binding)

pub one_fault : (bytes : Text) (fault other : FileFault) → IsPresentFileRefused bytes fault → IsPresentFileRefused bytes other → fault ≢ FileFault.Memory → other ≢ FileFault.Memory → fault ≡ other
one_fault bytes fault other h k = verdicts.one_fault file_max present_table bytes fault other h k
