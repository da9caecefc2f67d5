-- Steps that the walks over a block's memory share. Assumes `Logic`.
use Rattle.std.proofs.lemmas.Bool.Decides.{nat_tests}
use Rattle.std.proofs.Common.{arith, ◌≡◌, List, [], ◌∷◌, ◌++◌, refl, sym, ap, subst}
use seplogic.Ra.Ura.{Ura}
use lib.Dec.{T}
use mir.Val.{Val, vstruct, vcons, vnil, of_list, has_ty, WT}
use mir.Syntax.{Body, seq}
use base.Fml.{Fml}
use types.Logic.{Logic}
use types.Kit.{Goal, Seq, Step, step, Item, ‵, ◌$◌, drop, move, use0, fsplit, fjoin, fpick, fpack, feq_l, feq_i}
use denote.RattleType.{RattleType, Valss}
use denote.Param.{layout}
use denote.RawPtr.{Ptr, RawPtr, ptr_val}
use denote.Steps.{nothing}
use denote.Shadow.{makes_shadow}
use denote.Struct.Owning.{shape as fields_of}
use denote.Struct.Struct.{Shape, Struct, within}
use denote.Struct.Declared.{shape as tuple_shape}
use denote.Struct.Tuple.{Tuple, tuple_type}
use Rattle.arena_region.specs.Ownership.{store_owns, deed_owns}
use Rattle.arena_region.specs.contracts.store.Store as S
use Rattle.arena_region.specs.contracts.store.Base as B
use Rattle.arena_region.specs.contracts.store.Deed as D
use Rattle.std.specs.declared.alloc.Allocator.{Ghosts}

abbrev pub St : RattleType
St = S.the_row

abbrev pub Bs : RattleType
Bs = B.the_row

-- a struct with these fields, whatever its name
abbrev shape : List RattleType → Shape
shape Rs = record { name = []; args = []; types = []; fields = Rs }

-- the fields of a `Base`, and those of a `Store`
abbrev pub Pointer : RattleType
Pointer = Struct (shape (RawPtr ∷ []))

abbrev pub Nothing : RattleType
Nothing = Struct (shape [])

-- an owner of a block's deed
abbrev pub Dd : (A : RattleType) → Ghosts A.Denot → RattleType
Dd A g = D.the_row A g

-- what follows a body's first statement
abbrev pub tail : Body → Body
tail (seq s t) = t
tail s = s

-- the machine values of these, and those of tuples
abbrev pub word : Ptr → Val
word p = vstruct (vcons (ptr_val p) vnil)

abbrev pub none : Val
none = vstruct vnil

abbrev pub mark : Val
mark = vstruct (vcons none vnil)

abbrev pub two : Val → Val → Val
two u v = vstruct (vcons u (vcons v vnil))

abbrev pub three : Val → Val → Val → Val
three u v w = vstruct (vcons u (vcons v (vcons w vnil)))

pub word-good : (p : Ptr) → T (has_ty (layout Pointer) (word p)) × WT (word p)
word-good p = grind (arith, nat_tests)

-- the machine values of all parameters, in one list
abbrev pub flat : List (List Val) → List Val
flat [] = []
flat (us ∷ uss) = us ++ flat uss

module _ {M : Type 1} {𝓤 : Ura M} {𝓛 : Logic 𝓤} {K : Type 0} {Γ : List (Item 𝓤)} where
  -- a function runs with the known values of its parameters
  pub passed : K → (F : List Val → Goal 𝓤 𝓛.H) (uss vss : List (List Val)) → uss ≡ vss → Step K 𝓛 Γ (F (flat vss)) Γ (F (flat uss))
  passed t F uss vss e = step (λ s. subst (λ (g : Goal 𝓤 𝓛.H). Seq K 𝓛 Γ g) (ap (λ ws. F (flat ws)) (sym e)) s)

module _ {M : Type 1} {𝓤 : Ura M} {𝓛 : Logic 𝓤} {K : Type 0} {Γ : List (Item 𝓤)} {G : Goal 𝓤 𝓛.H} where
  pub word_had : K → (p : Ptr) (vs : List Val) → (vs ≡ word p ∷ [] → Seq K 𝓛 Γ G) → Seq K 𝓛 (‵ (Pointer.own_val (p, tt) vs) ∷ Γ) G
  word_had t p vs k =
      fpick t (λ vss. fsplit t $ feq_l t (λ ev. fsplit t $ feq_l t (λ e. drop t $
      k (subst (λ (ws : List Val). vs ≡ vstruct (of_list (ws ++ [])) ∷ []) e ev))))

  pub word_made : K → (p : Ptr) → Step K 𝓛 (‵ (Pointer.own_val (p, tt) (word p ∷ [])) ∷ Γ) G Γ G
  word_made t p = step (λ s.
      nothing t $ feq_i t (List Val) (ptr_val p ∷ []) (ptr_val p ∷ []) refl $ fjoin t $
      feq_i t (List Val) (word p ∷ []) (word p ∷ []) refl $ fjoin t $
      fpack t (Valss (RawPtr ∷ [])) (within (shape (RawPtr ∷ [])) (p, tt) (word p ∷ [])) (ptr_val p ∷ [], tt) $ s)

  pub none_had : K → (vs : List Val) → (vs ≡ none ∷ [] → Seq K 𝓛 Γ G) → Seq K 𝓛 (‵ (Nothing.own_val tt vs) ∷ Γ) G
  none_had t vs k = fpick t (λ vss. fsplit t $ feq_l t (λ e. drop t $ k e))

  pub none_made : K → Step K 𝓛 (‵ (Nothing.own_val tt (none ∷ [])) ∷ Γ) G Γ G
  none_made t = step (λ s.
      nothing t $ feq_i t (List Val) (none ∷ []) (none ∷ []) refl $ fjoin t $ fpack t (Valss []) (within (shape []) tt (none ∷ [])) tt $ s)

module _ {M : Type 1} {𝓤 : Ura M} {𝓛 : Logic 𝓤} {K : Type 0} {Γ : List (Item 𝓤)} {G : Goal 𝓤 𝓛.H} where
  -- an owner of a block's memory
  pub store_made : K → (d : St.Denot) → Step K 𝓛 (‵ (St.own_val d (none ∷ [])) ∷ Γ) G (‵ (store_owns d.at d.room d.ready) ∷ Γ) G
  store_made t d = step (λ s. none_made t $ fjoin t $ s)

  pub deed_had : K → (A : RattleType) (g : Ghosts A.Denot) (d : (Dd A g).Denot) (vs : List Val)
      → (vs ≡ mark ∷ [] → Seq K 𝓛 (‵ (deed_owns (g.dealloc_token d.alloc) d.at d.len) ∷ Γ) G) → Seq K 𝓛 (‵ ((Dd A g).own_val d vs) ∷ Γ) G
  deed_had t A g d vs k =
      fsplit t $ fpick t (λ vss. fsplit t $ feq_l t (λ ev. fsplit t $ fpick t (λ uss. fsplit t $ feq_l t (λ e. drop t $ drop t $
      k (subst (λ (ws : List Val). vs ≡ vstruct (of_list (ws ++ [])) ∷ []) e ev)))))

  pub deed_made : K → (A : RattleType) (g : Ghosts A.Denot) (d : (Dd A g).Denot)
      → Step K 𝓛 (‵ ((Dd A g).own_val d (mark ∷ [])) ∷ Γ) G (‵ (deed_owns (g.dealloc_token d.alloc) d.at d.len) ∷ Γ) G
  deed_made t A g d = step (λ s.
      let F : Fml = (Struct (fields_of (D.the_type A g))).own_val (tt, tt) (mark ∷ []) in
      use0 𝓛 (‵ F) (makes_shadow 𝓛 F (λ vss. (tt, ((λ uss. (tt, tt)), tt))) ((none ∷ [], tt), (refl, ((tt, (refl, tt)), tt)))) $
      fjoin t $ s)

  pub two_made : K → (R S : RattleType) (x : R.Denot) (y : S.Denot) (u v : Val)
      → Step K 𝓛 (‵ ((Tuple (R ∷ S ∷ [])).own_val (x, y) (two u v ∷ [])) ∷ Γ) G (‵ (R.own_val x (u ∷ [])) ∷ ‵ (S.own_val y (v ∷ [])) ∷ Γ) G
  two_made t R S x y u v = step (λ s.
      nothing t $ move t (2 ∷ 0 ∷ []) $ fjoin t $ move t (1 ∷ 0 ∷ []) $ fjoin t $
      feq_i t (List Val) (two u v ∷ []) (two u v ∷ []) refl $ fjoin t $
      fpack t (Valss (R ∷ S ∷ [])) (within (tuple_shape (tuple_type (R ∷ S ∷ []))) (x, (y, tt)) (two u v ∷ [])) (u ∷ [], (v ∷ [], tt)) $ s)

  pub three_made : K → (R S T : RattleType) (x : R.Denot) (y : S.Denot) (z : T.Denot) (u v w : Val)
      → Step K 𝓛 (‵ ((Tuple (R ∷ S ∷ T ∷ [])).own_val (x, y, z) (three u v w ∷ [])) ∷ Γ) G
      (‵ (R.own_val x (u ∷ [])) ∷ ‵ (S.own_val y (v ∷ [])) ∷ ‵ (T.own_val z (w ∷ [])) ∷ Γ) G
  three_made t R S T x y z u v w = step (λ s.
      nothing t $ move t (3 ∷ 0 ∷ []) $ fjoin t $ move t (2 ∷ 0 ∷ []) $ fjoin t $ move t (1 ∷ 0 ∷ []) $ fjoin t $
      feq_i t (List Val) (three u v w ∷ []) (three u v w ∷ []) refl $ fjoin t $
      fpack t (Valss (R ∷ S ∷ T ∷ [])) (within (tuple_shape (tuple_type (R ∷ S ∷ T ∷ []))) (x, (y, (z, tt))) (three u v w ∷ []))
      (u ∷ [], (v ∷ [], (w ∷ [], tt))) $ s)
