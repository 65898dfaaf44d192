-- The machine value of a `Handle`, and what it owns apart. Assumes `Logic`.
use Rattle.std.proofs.Common.{◌≡◌, List, [], ◌∷◌, ◌++◌, refl, sym, subst, lit<}
use mathlib.Core.Bool.{true≢false}
use seplogic.Ra.Ura.{Ura}
use mir.Syntax.{impl, tnil, dnil}
use mir.Val.{Val, vstruct, of_list}
use types.Logic.{Logic}
use types.Kit.{Item, Goal, Seq, Step, step, ‵, ◌$◌, move, drop, fsplit, fjoin, fpick, fpack, feq_i, feq_l}
use denote.RattleType.{RattleType, Valss}
use denote.Builtin.{RawPtr}
use denote.RawPtr.{Ptr, block_ptr, null_ptr, ptr_val}
use denote.Steps.{nothing}
use denote.Param.{layout}
use denote.Struct.Struct.{within}
use denote.Struct.Owning.{shape, to}
use Rattle.std.specs.Option.{IsSome}
use Rattle.std.specs.Global.{Global}
use Rattle.std.specs.declared.option.Option.{Option}
use Rattle.std.specs.declared.option.Option.TheVariants.{None, Some}
use Rattle.std.specs.contracts.alloc.Global as heap_type
use Rattle.std.specs.contracts.impls.GlobalAllocator.TheImpl.{ghosts, dict}
use Rattle.std.proofs.alloc.Global.TheLaws as heap
use Rattle.std.proofs.alloc.Calls.{Al, handle_tells}
use Rattle.std.proofs.cell.Inside.{Good}
use Rattle.starlark_c.specs.HeldDocuments.{held_at}
use Rattle.starlark_document.specs.contracts.document.Document as doc
use Rattle.starlark_c.specs.contracts.handle.Handle as handle
use Rattle.starlark_c.specs.contracts.loose.Loose as loose
use Rattle.starlark_c.proofs.LooseValues.{both, loose_good}

abbrev pub Heap : RattleType
Heap = heap_type.the_row

abbrev pub Doc : RattleType
Doc = doc.the_row

abbrev pub Handle : RattleType
Handle = handle.the_row

abbrev pub LooseDoc : RattleType
LooseDoc = loose.the_row Doc Heap ghosts

abbrev pub al : Al
al = record { row = Heap; laws = heap.the_row_laws; g = ghosts; d = dict; drops = impl [] tnil dnil }

-- what is held, where something is
pub value_of : {X : Type 0} (o : Option X) → IsSome o → (x : X) × (o ≡ Some x)
value_of None some = absurd (true≢false (sym some))
value_of (Some x) some = (x, refl)

pub handle_good : (p : Ptr) (h : Val) → Good (layout Heap) h → Good (layout Handle) (both (ptr_val p) h)
handle_good (block_ptr b o) h fits = loose_good Doc Heap heap.the_row_laws ghosts b o h fits
handle_good null_ptr h fits = ((loose_good Doc Heap heap.the_row_laws ghosts 0 0 h fits).0, (record { fits = lit< tt }, (fits.1, tt)))

module _ {M : Type 1} {𝓤 : Ura M} {𝓛 : Logic 𝓤} {K : Type 0} {Γ : List (Item 𝓤)} {G : Goal 𝓤 𝓛.H} where
  pub handle_out : K → (d : Handle.Denot) (vs : List Val)
      → ((h : Val) → vs ≡ both (ptr_val d.at) h ∷ [] → Good (layout Heap) h → Seq K 𝓛 (‵ (held_at d.alloc d.at d.held) ∷ ‵ (Heap.own_val d.alloc (h ∷ [])) ∷ Γ) G)
      → Seq K 𝓛 (‵ (Handle.own_val d vs) ∷ Γ) G
  handle_out t d vs k =
      fsplit t $ fpick t (λ vss. fsplit t $ feq_l t (λ ev. fsplit t $ feq_l t (λ ep. fsplit t $ handle_tells al t d.alloc vss.1.0 (λ h ea fits. move t (1 ∷ []) $ drop t $ move t (1 ∷ []) $
      k h (subst (λ (ws : List Val). vs ≡ vstruct (of_list (ptr_val d.at ∷ (ws ++ []))) ∷ []) ea (subst (λ (ps : List Val). vs ≡ vstruct (of_list (ps ++ (vss.1.0 ++ []))) ∷ []) ep ev)) fits))))

  pub handle_in : K → (p : Ptr) (h : Val) (a : Global) (o : Option Doc.Denot)
      → Step K 𝓛 (‵ (Handle.own_val (record { at = p; alloc = a; held = o }) (both (ptr_val p) h ∷ [])) ∷ Γ) G (‵ (held_at a p o) ∷ ‵ (Heap.own_val a (h ∷ [])) ∷ Γ) G
  handle_in t p h a o = step (λ s. let v : Val = both (ptr_val p) h in
      nothing t $ move t (2 ∷ 0 ∷ []) $ fjoin t $ feq_i t (List Val) (ptr_val p ∷ []) (ptr_val p ∷ []) refl $ fjoin t $ feq_i t (List Val) (v ∷ []) (v ∷ []) refl $ fjoin t $
      fpack t (Valss (RawPtr ∷ Heap ∷ [])) (within (shape handle.the_type) (to handle.the_type (record { at = p; alloc = a; held = o })) (v ∷ [])) (ptr_val p ∷ [], (h ∷ [], tt)) $ fjoin t $ s)
