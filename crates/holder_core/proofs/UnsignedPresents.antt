-- A present order file without keys says one order, or is refused.
use Rattle.std.proofs.Common.{◌≡◌, ◌≢◌, codes}
use Rattle.sd_outside.specs.Limits.{file_max}
use Rattle.claim_tree.specs.Tree.{Text, Members}
use Rattle.claim_tree.specs.TreeValues.{IsText, IsTexts}
use Rattle.claim_tree.proofs.TreeValues.{SaysOne, one_text, one_texts}
use Rattle.file_members.specs.FileForms.{required, optional, MemberFails, missing, wrong}
use Rattle.file_members.specs.FileRefusals.{IsMemberRefused}
use Rattle.file_members.specs.declared.field.Field.TheVariants.{Algs}
use Rattle.file_members.specs.declared.file_fault.FileFault.{FileFault}
use Rattle.file_members.specs.declared.file_fault.FileFault.TheVariants.{Memory}
use Rattle.file_members.proofs.FileVerdicts as verdicts
use Rattle.key_binding.specs.ShortText.{IsShortText}
use Rattle.verifier_core.proofs.PolicyVersions.{one_short_text}
use Rattle.holder_core.specs.UnsignedPresent.{IsAlgName, IsCallerBinding, unsigned_present_table, IsUnsignedPresentFile, IsUnsignedPresentRefused}
use Rattle.holder_core.specs.declared.present_file.UnsignedPresentFile.{UnsignedPresentFile}
use Rattle.holder_core.proofs.OneObject.{one_members, one_said, one_maybe_said}
use Rattle.holder_core.proofs.PresentOrders as orders
use Rattle.holder_core.proofs.PresentOrders.{one_order}

-- ---- a list of names that has to be there

fails_too : (ms : Members) (fault : FileFault) → MemberFails (optional Algs IsTexts) ms fault → MemberFails (required Algs IsTexts) ms fault
fails_too ms fault (missing absent must is) = cc must
fails_too ms fault (wrong t there odd is) = wrong t there odd is

-- what is wrong with one that may be there is wrong with one that has to be
pub refused_too : (ms : Members) (fault : FileFault) → IsMemberRefused (optional Algs IsTexts) ms fault → IsMemberRefused (required Algs IsTexts) ms fault
refused_too ms Memory refused = tt
refused_too ms fault refused = fails_too ms fault refused

-- ---- one order

one_alg_name : SaysOne IsAlgName
one_alg_name t x y h k = one_text t x y h.is k.is

one_binding : SaysOne IsCallerBinding
one_binding t b d h k =
    let same = one_members t h.members k.members h.is k.is in
    λ i. record {
      alg = one_said IsAlgName one_alg_name same (codes "alg") b.alg d.alg h.alg k.alg i;
      kid = one_maybe_said IsText one_text same (codes "kid") b.kid d.kid h.kid k.kid i;
      aud = one_said IsShortText one_short_text same (codes "aud") b.aud d.aud h.aud k.aud i;
      nonce = one_said IsShortText one_short_text same (codes "nonce") b.nonce d.nonce h.nonce k.nonce i;
    }

pub one_present : (bytes : Text) (p q : UnsignedPresentFile) → IsUnsignedPresentFile bytes p → IsUnsignedPresentFile bytes q → p ≡ q
one_present bytes p q h k =
    let one =
    one_order Algs IsTexts IsCallerBinding one_texts one_binding bytes h.members k.members h.file k.file p.ask.algs q.ask.algs p.ask.want q.ask.want p.never q.never p.ask.binding q.ask.binding
    (h.algs, h.want, h.never, h.binding) (k.algs, k.want, k.never, k.binding) in
    λ i. record { ask = record { algs = one.0 i; want = one.1 i; binding = one.3 i }; never = one.2 i }

pub not_both : (bytes : Text) (said : UnsignedPresentFile) (fault : FileFault) → IsUnsignedPresentFile bytes said → IsUnsignedPresentRefused bytes fault → fault ≡ FileFault.Memory
not_both bytes said fault says = orders.not_both Algs IsTexts IsCallerBinding bytes fault says.members says.file said.ask.algs said.ask.want said.never said.ask.binding (says.algs, says.want, says.never, says.binding)

pub one_fault : (bytes : Text) (fault other : FileFault) → IsUnsignedPresentRefused bytes fault → IsUnsignedPresentRefused bytes other → fault ≢ FileFault.Memory → other ≢ FileFault.Memory → fault ≡ other
one_fault bytes fault other h k = verdicts.one_fault file_max unsigned_present_table bytes fault other h k
