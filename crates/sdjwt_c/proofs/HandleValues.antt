-- The machine values of a handle. Assumes `Logic`.
use Rattle.std.proofs.Common.{◌≡◌, ℕ, List, [], ◌∷◌, ◌++◌, Option, None, Some, refl, subst, lit<}
use mathlib.Core.Bool.{true, ◌&&◌}
use lib.Dec.{T}
use seplogic.Ra.Ura.{Ura}
use mir.Syntax.{impl, tnil, dnil, ty_ptr}
use mir.Raw.{raw as bare}
use mir.Val.{Val, vstruct, of_list, has_ty, WT}
use base.Logic.{ent, guard, guard_i, via, snd∗}
use types.Logic.{Logic, sem}
use types.Kit.{Item, Goal, Seq, Step, step, ‵, given, ◌$◌, move, drop, fsplit, fjoin, fpick, fpack, feq_i, feq_l, learn, use1}
use contract.Monad.{fact_use}
use denote.RattleType.{RattleType, Valss}
use denote.Builtin.{RawPtr}
use denote.Memory.{lone}
use denote.RawPtr.{Ptr, block_ptr, null_ptr, ptr_val, lies_at, Testable}
use denote.Steps.{nothing}
use denote.Param.{layout}
use denote.Struct.Struct.{within}
use denote.Struct.Owning.{shape, to}
use Rattle.core.proofs.alloc.Calls.{Al, handle_tells}
use Rattle.core.proofs.cell.Inside.{Good}
use Rattle.std_alloc.proofs.ResultValues.{and_tt}
use Rattle.std.specs.declared.alloc.Global.{Global}
use Rattle.std.specs.contracts.alloc.Global as heap
use Rattle.std.proofs.alloc.Global.TheLaws as heap_laws
use Rattle.std.specs.contracts.impls.GlobalAllocator.TheImpl.{ghosts}
use Rattle.std.proofs.GlobalToken.{dealloc_token-Testable}
use Rattle.verifier_core.specs.declared.policy.Policy.{Policy}
use Rattle.verifier_core.specs.contracts.policy.Policy.{the_row as policy_row}
use Rattle.sdjwt_c.specs.Held.{boxed, holds}
use Rattle.sdjwt_c.specs.contracts.handle.SdjwtPolicy as handle
use Rattle.sdjwt_c.proofs.LooseValues.{both}

abbrev pub Z : RattleType
Z = heap.the_row

abbrev pub P : RattleType
P = handle.the_row

abbrev pub al : Al
al = record { row = Z; laws = heap_laws.the_row_laws; g = ghosts; d = impl [] tnil dnil; drops = impl [] tnil dnil }

pub handle_good : (p : Ptr) (h : Val) → Good (layout Z) h → T (has_ty ty_ptr (ptr_val p) && (has_ty (layout Z) h && true)) × WT (both (ptr_val p) h)
handle_good (block_ptr b o) h fits = (and_tt (has_ty (layout Z) h) fits.0, (tt, (fits.1, tt)))
handle_good null_ptr h fits = (and_tt (has_ty (layout Z) h) fits.0, (record { fits = lit< tt }, (fits.1, tt)))

module _ {M : Type 1} {𝓤 : Ura M} (𝓛 : Logic 𝓤) where
  pub tested : (a : Global) (p : Ptr) (x : Policy) → ent 𝓤 (sem 𝓛 (boxed a p x)) (guard 𝓤 (Testable p) (sem 𝓛 (boxed a p x)))
  tested a p x = fact_use 𝓤 (Testable p) (via 𝓤 _ (snd∗ 𝓤 (sem 𝓛 (lies_at policy_row base.Fraction.full_share p x)) (sem 𝓛 (ghosts.dealloc_token a (bare (lone policy_row.mir)) p)))
      (dealloc_token-Testable 𝓛 a (bare (lone policy_row.mir)) p)) (guard_i 𝓤 (Testable p) (sem 𝓛 (boxed a p x)))

module _ {M : Type 1} {𝓤 : Ura M} {𝓛 : Logic 𝓤} {K : Type 0} {Γ : List (Item 𝓤)} {G : Goal 𝓤 𝓛.H} where
  pub handle_out : K → (d : P.Denot) (vs : List Val)
      → ((h : Val) → Good (layout Z) h → vs ≡ both (ptr_val d.at) h ∷ [] → Seq K 𝓛 (‵ (holds d.alloc d.at d.held) ∷ ‵ (Z.own_val d.alloc (h ∷ [])) ∷ Γ) G)
      → Seq K 𝓛 (‵ (P.own_val d vs) ∷ Γ) G
  handle_out t d vs k =
      fsplit t $ fpick t (λ vss. fsplit t $ feq_l t (λ ev. fsplit t $ feq_l t (λ ep. fsplit t $ handle_tells al t d.alloc vss.1.0 (λ h ea fits. move t (1 ∷ []) $ drop t $ move t (1 ∷ []) $ k h fits
      (subst (λ (ws : List Val). vs ≡ vstruct (of_list (ptr_val d.at ∷ (ws ++ []))) ∷ []) ea (subst (λ (ps : List Val). vs ≡ vstruct (of_list (ps ++ (vss.1.0 ++ []))) ∷ []) ep ev))))))

  pub handle_in : K → (p : Ptr) (h : Val) (a : Global) (held : Option Policy)
      → Step K 𝓛 (‵ (P.own_val (record { at = p; alloc = a; held = held }) (both (ptr_val p) h ∷ [])) ∷ Γ) G (‵ (holds a p held) ∷ ‵ (Z.own_val a (h ∷ [])) ∷ Γ) G
  handle_in t p h a held = step (λ s. let v : Val = both (ptr_val p) h in
      nothing t $ move t (2 ∷ 0 ∷ []) $ fjoin t $ feq_i t (List Val) (ptr_val p ∷ []) (ptr_val p ∷ []) refl $ fjoin t $ feq_i t (List Val) (v ∷ []) (v ∷ []) refl $ fjoin t $
      fpack t (Valss (RawPtr ∷ Z ∷ [])) (within (shape handle.the_type) (to handle.the_type (record { at = p; alloc = a; held = held })) (v ∷ [])) (ptr_val p ∷ [], (h ∷ [], tt)) $ fjoin t $ s)

  pub either_held : K → (a : Global) (p : Ptr) (held : Option Policy) → (p ≡ null_ptr → held ≡ None → Seq K 𝓛 Γ G)
      → ((b o : ℕ) (x : Policy) → p ≡ block_ptr b o → held ≡ Some x → Testable (block_ptr b o) → Seq K 𝓛 (‵ (boxed a (block_ptr b o) x) ∷ Γ) G)
      → Seq K 𝓛 (‵ (holds a p held) ∷ Γ) G
  either_held t a null_ptr held none one = fpick t (λ e. drop t $ none refl e)
  either_held t a (block_ptr b o) held none one = fpick t (λ x. fsplit t $ move t (1 ∷ []) $ fpick t (λ says. drop t $
      use1 𝓛 (given (Testable (block_ptr b o)) (‵ (boxed a (block_ptr b o) x))) (tested 𝓛 a (block_ptr b o) x) $ learn t (λ test. one b o x refl says test)))
