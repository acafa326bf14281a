-- The steps that the walks over nodes share. Assumes `Logic`.
use Rattle.std.proofs.Common.{◌≡◌, ℕ, ◌<◌, List, [], ◌∷◌, ◌++◌, refl, ap, ◌+◌, ◌∙◌, arith, length, reverse, sym, append_assoc}
use mathlib.Core.Bool.{Bool, true, false, ◌&&◌}
use mathlib.Core.List.{reverse-cons}
use seplogic.Ra.Ura.{Ura}
use mir.Syntax.{impl, tnil, dnil, ty_ptr}
use mir.Raw.{raw as bare}
use mir.Val.{Val, WT, has_ty, vstruct, vcons, vnil, of_list}
use lib.Dec.{T}
use base.Fraction.{full_share}
use base.Stored.{Gv}
use base.Logic.{never, never_e, fst∗}
use base.Fml.{Lft, Share, GName, Fml, ftrue, fsep, fbor, fobor, fobs, fauth, flft}
use types.Logic.{Logic, sem}
use types.Kit.{given, learn, use1, Item, Goal, Seq, Soaks, Step, step, ‵, ◌$◌, move, drop, rewrite, fsplit, fjoin, fpick, fpack, feq_i, feq_l}
use types.SemTy.{Body as Borrowed}
use denote.RattleType.{RattleType, Valss}
use denote.Builtin.{RawPtr}
use denote.Laws.{Is, shows}
use denote.Memory.{lone, mem, cell_at, part_at, part_of, hidden_shr}
use denote.Param.{param, layout}
use denote.Param.Laws.{Laws, param_laws}
use denote.RawPtr.{Ptr, block_ptr, null_ptr, ptr_val, in_a_block}
use denote.Steps.{nothing, peeks, opens, closes}
use denote.Struct.Struct.{Struct, within}
use denote.Struct.Laws.{RawPtr-copy}
use denote.Copied.{Struct-Copied}
use denote.Opens.{Opens, hide}
use prog.Memory.{up, align}
use denote.Struct.Owning.{shape}
use denote.Struct.Declared as Declared
use Rattle.core.proofs.alloc.Calls.{Al}
use Rattle.std.specs.contracts.alloc.Global as heap
use Rattle.std.proofs.alloc.Global.TheLaws as heap_laws
use Rattle.std.specs.contracts.impls.GlobalAllocator.TheImpl.{ghosts}
use Rattle.core.proofs.atomic.Steps.{Ptr-Good}
use Rattle.core.proofs.cell.Inside.{Good, one}
use Rattle.node_chain.specs.Nodes.{heap_token, node_owns, nodes_own, passed_own, both_own, next_lent}
use Rattle.node_chain.specs.contracts.nodes.Node as node
use Rattle.node_chain.specs.contracts.nodes.Nodes as nodes
use Rattle.node_chain.specs.contracts.nodes.StoredNodes as stored
use Rattle.node_chain.proofs.Values.{both}

-- the C heap
abbrev pub al : Al
al = record { row = heap.the_row; laws = heap_laws.the_row_laws; g = ghosts; d = impl [] tnil dnil; drops = impl [] tnil dnil }

abbrev pub word : Ptr → Ptr → Ptr → Val
word h p n = vstruct (vcons (ptr_val h) (vcons (ptr_val p) (vcons (ptr_val n) vnil)))

abbrev pub one_word : Ptr → Val
one_word h = vstruct (vcons (ptr_val h) vnil)

both_true : (b d : Bool) → T b → T d → T (b && d)
both_true true true s t = tt
both_true false d s t = absurd s
both_true true false s t = absurd t

pub one_word_good : (h : Ptr) → T (has_ty ty_ptr (ptr_val h) && true) × WT (one_word h)
one_word_good h = let a = Ptr-Good h in (both_true (has_ty ty_ptr (ptr_val h)) true a.0 tt, (a.1, tt))

pub word_good : (h p n : Ptr) → T (has_ty ty_ptr (ptr_val h) && (has_ty ty_ptr (ptr_val p) && (has_ty ty_ptr (ptr_val n) && true))) × WT (word h p n)
word_good h p n =
    let a = Ptr-Good h in let b = Ptr-Good p in let c = Ptr-Good n in
    (both_true (has_ty ty_ptr (ptr_val h)) _ a.0 (both_true (has_ty ty_ptr (ptr_val p)) _ b.0 (both_true (has_ty ty_ptr (ptr_val n)) true c.0 tt)), (a.1, (b.1, (c.1, tt))))

back : {Y : Type 0} (x : Y) (xs ys : List Y) → reverse xs ++ x ∷ ys ≡ reverse (x ∷ xs) ++ ys
back x xs ys = sym (append_assoc (reverse xs) (x ∷ []) ys) ∙ ap (λ l. l ++ ys) (sym (reverse-cons x xs))

module _ (X : RattleType) (L : Laws X) where
  abbrev pub R : RattleType
  R = param 0 X

  abbrev pub NodeRow : RattleType
  NodeRow = node.the_row R

  abbrev pub NodesRow : RattleType
  NodesRow = nodes.the_row R

  abbrev pub StoredRow : RattleType
  StoredRow = stored.the_row R

  abbrev pub Owned : NodesRow.Denot → Fml
  Owned d = both_own R d.head d.previous d.next d.priors d.passed d.nexts d.left

  -- the three pointers
  abbrev pub Words : RattleType
  Words = Struct (shape (nodes.the_type R))

  pub words_told : (h p n : Ptr) (vs : List Val) → Is Words (h, (p, (n, tt))) vs → vs ≡ word h p n ∷ []
  words_told h p n vs is = is.1.0 ∙ (λ i. vstruct (of_list (is.1.1.0 i ++ (is.1.1.1.0 i ++ (is.1.1.1.1.0 i ++ [])))) ∷ [])

  pub words_opened : {M : Type 1} {𝓤 : Ura M} (𝓛 : Logic 𝓤) → Opens 𝓛 Words
  words_opened {M} {𝓤 = 𝓤} 𝓛 = (Struct-Copied 𝓛 (shape (nodes.the_type R)) (refl, (refl, (refl, tt))) (RawPtr-copy.copied M 𝓤 𝓛, (RawPtr-copy.copied M 𝓤 𝓛, (RawPtr-copy.copied M 𝓤 𝓛, tt)))).opens

  -- where the item lies in a node
  abbrev pub item_offset : ℕ
  item_offset = up (align (lone R.mir)) 8

  module _ {M : Type 1} {𝓤 : Ura M} {𝓛 : Logic 𝓤} {K : Type 0} {Γ : List (Item 𝓤)} {G : Goal 𝓤 𝓛.H} where
    -- a node is taken apart: the item's machine value v
    pub node_had : K → (d : NodeRow.Denot) (us : List Val)
        → ((v : Val) → Good (layout X) v → us ≡ both (ptr_val d.next) v ∷ [] → Seq K 𝓛 (‵ (R.own_val d.item (v ∷ [])) ∷ Γ) G) → Seq K 𝓛 (‵ (NodeRow.own_val d us) ∷ Γ) G
    node_had t d us k = fpick t (λ vss. fsplit t $ feq_l t (λ all. fsplit t $ feq_l t (λ e. fsplit t $ peeks t R (Is R) (shows 𝓛 R) d.item vss.1.0 (λ j.
        let g = one (layout X) vss.1.0 (((param_laws 0 X L).lawful 𝓛).typed d.item vss.1.0 j) in
        rewrite t 0 (λ (ws : List Val). ‵ (R.own_val d.item ws)) g.1 refl $ move t (1 ∷ []) $ drop t $ k g.0 g.2 (all ∙ (λ n. vstruct (of_list (e n ++ (g.1 n ++ []))) ∷ []))))))

    pub node_made : K → (n : Ptr) (x : X.Denot) (v : Val) → Step K 𝓛 (‵ (NodeRow.own_val (record { next = n; item = x }) (both (ptr_val n) v ∷ [])) ∷ Γ) G (‵ (R.own_val x (v ∷ [])) ∷ Γ) G
    node_made t n x v = step (λ s. let w : Val = both (ptr_val n) v in
        nothing t $ move t (1 ∷ 0 ∷ []) $ fjoin t $ feq_i t (List Val) (ptr_val n ∷ []) (ptr_val n ∷ []) refl $ fjoin t $ feq_i t (List Val) (w ∷ []) (w ∷ []) refl $ fjoin t $
        fpack t (Valss (RawPtr ∷ R ∷ [])) (within (Declared.shape (node.the_type R)) (n, (x, tt)) (w ∷ [])) (ptr_val n ∷ [], (v ∷ [], tt)) $ s)

    pub stored_had : K → (d : StoredRow.Denot) (vs : List Val) → (vs ≡ one_word d.head ∷ [] → Seq K 𝓛 (‵ (nodes_own R d.head d.nexts d.items) ∷ Γ) G) → Seq K 𝓛 (‵ (StoredRow.own_val d vs) ∷ Γ) G
    stored_had t d vs k = fsplit t $ fpick t (λ vss. fsplit t $ feq_l t (λ all. fsplit t $ feq_l t (λ e. drop t $ k (all ∙ (λ i. vstruct (of_list (e i ++ [])) ∷ [])))))

    pub stored_made : K → (d : StoredRow.Denot) → Step K 𝓛 (‵ (StoredRow.own_val d (one_word d.head ∷ [])) ∷ Γ) G (‵ (nodes_own R d.head d.nexts d.items) ∷ Γ) G
    stored_made t d = step (λ s. let v : Val = one_word d.head in
        nothing t $ feq_i t (List Val) (ptr_val d.head ∷ []) (ptr_val d.head ∷ []) refl $ fjoin t $ feq_i t (List Val) (v ∷ []) (v ∷ []) refl $ fjoin t $
        fpack t (Valss (RawPtr ∷ [])) (within (shape (stored.the_type R)) (d.head, tt) (v ∷ [])) (ptr_val d.head ∷ [], tt) $ fjoin t $ s)

    pub nodes_had : K → (d : NodesRow.Denot) (vs : List Val) → (vs ≡ word d.head d.previous d.next ∷ [] → Seq K 𝓛 (‵ (Owned d) ∷ Γ) G) → Seq K 𝓛 (‵ (NodesRow.own_val d vs) ∷ Γ) G
    nodes_had t d vs k = fsplit t $ fpick t (λ vss. fsplit t $ feq_l t (λ all. fsplit t $ feq_l t (λ e. fsplit t $ feq_l t (λ f. fsplit t $ feq_l t (λ g. drop t $ k (all ∙ (λ i. vstruct (of_list (e i ++ (f i ++ (g i ++ [])))) ∷ [])))))))

    pub nodes_made : K → (d : NodesRow.Denot) → Step K 𝓛 (‵ (NodesRow.own_val d (word d.head d.previous d.next ∷ [])) ∷ Γ) G (‵ (Owned d) ∷ Γ) G
    nodes_made t d = step (λ s. let v : Val = word d.head d.previous d.next in
        nothing t $ feq_i t (List Val) (ptr_val d.next ∷ []) (ptr_val d.next ∷ []) refl $ fjoin t $ feq_i t (List Val) (ptr_val d.previous ∷ []) (ptr_val d.previous ∷ []) refl $ fjoin t $ feq_i t (List Val) (ptr_val d.head ∷ []) (ptr_val d.head ∷ []) refl $ fjoin t $ feq_i t (List Val) (v ∷ []) (v ∷ []) refl $ fjoin t $
        fpack t (Valss (RawPtr ∷ RawPtr ∷ RawPtr ∷ [])) (within (shape (nodes.the_type R)) (d.head, (d.previous, (d.next, tt))) (v ∷ [])) (ptr_val d.head ∷ [], (ptr_val d.previous ∷ [], (ptr_val d.next ∷ [], tt))) $ fjoin t $ s)

  module _ {M : Type 1} {𝓤 : Ura M} {𝓛 : Logic 𝓤} {K : Type 0} {Γ : List (Item 𝓤)} {G : Goal 𝓤 𝓛.H} where
    pub node_opens : K → (d : NodeRow.Denot) (b o : ℕ)
        → ((v : Val) → Good (layout X) v → Seq K 𝓛 (‵ (cell_at full_share NodeRow.mir (both (ptr_val d.next) v ∷ []) b o) ∷ ‵ (R.own_val d.item (v ∷ [])) ∷ Γ) G) → Seq K 𝓛 (‵ (part_at NodeRow full_share d b o) ∷ Γ) G
    unfolding part_of
    node_opens t d b o k = fpick t (λ vs. fsplit t $ move t (1 ∷ []) $ node_had t d vs (λ v good is. rewrite t 1 (λ (ws : List Val). ‵ (cell_at full_share NodeRow.mir ws b o)) is refl $ move t (1 ∷ 0 ∷ []) $ k v good))

    pub node_closes : K → (n : Ptr) (x : X.Denot) (v : Val) (b o : ℕ)
        → Step K 𝓛 (‵ (part_at NodeRow full_share (record { next = n; item = x }) b o) ∷ Γ) G (‵ (cell_at full_share NodeRow.mir (both (ptr_val n) v ∷ []) b o) ∷ ‵ (R.own_val x (v ∷ [])) ∷ Γ) G
    unfolding part_of
    node_closes t n x v b o = step (λ s. let d : NodeRow.Denot = record { next = n; item = x } in let w : Val = both (ptr_val n) v in
        move t (1 ∷ []) $ node_made t n x v $ move t (1 ∷ 0 ∷ []) $ fjoin t $ fpack t (List Val) (λ us. fsep (cell_at full_share NodeRow.mir us b o) (NodeRow.own_val d us)) (w ∷ []) $ s)

    -- [the nodes; the word; the open borrow; obs; auth]
    pub nodes_opens : K → Soaks G → {κ : Lft} {q : Share} {γ : GName} (d : NodesRow.Denot) (rb ro : ℕ)
        → Step K 𝓛 (‵ (Owned d) ∷ ‵ (cell_at full_share NodesRow.mir (word d.head d.previous d.next ∷ []) rb ro) ∷ ‵ (fobor κ q (Borrowed (mem NodesRow) rb ro γ)) ∷ ‵ (fobs γ (NodesRow.coded.code d)) ∷ ‵ (fauth γ (NodesRow.coded.code d)) ∷ Γ) G
        (‵ (fobs γ (NodesRow.coded.code d)) ∷ ‵ (fbor κ (Borrowed (mem NodesRow) rb ro γ)) ∷ ‵ (flft κ q) ∷ Γ) G
    nodes_opens t z d rb ro = step (λ s.
        opens t z NodesRow {h = d} rb ro (λ vs. move t (1 ∷ []) $ nodes_had t d vs (λ is. rewrite t 1 (λ (ws : List Val). ‵ (cell_at full_share NodesRow.mir ws rb ro)) is refl $ s)))

    pub nodes_closes : K → Soaks G → {κ : Lft} {q : Share} {u v : Gv} {γ : GName} (d : NodesRow.Denot) (rb ro : ℕ)
        → Step K 𝓛 (‵ (fobs γ (NodesRow.coded.code d)) ∷ ‵ (fbor κ (Borrowed (mem NodesRow) rb ro γ)) ∷ ‵ (flft κ q) ∷ Γ) G
        (‵ (Owned d) ∷ ‵ (cell_at full_share NodesRow.mir (word d.head d.previous d.next ∷ []) rb ro) ∷ ‵ (fobor κ q (Borrowed (mem NodesRow) rb ro γ)) ∷ ‵ (fobs γ u) ∷ ‵ (fauth γ v) ∷ Γ) G
    nodes_closes t z d rb ro = step (λ s. nodes_made t d $ move t (1 ∷ 0 ∷ []) $ closes t z NodesRow d (word d.head d.previous d.next ∷ []) rb ro $ s)

    -- the first node, and the others
    pub next_apart : K → (p : Ptr) (ns : List Ptr) (xs : List X.Denot) → 0 < length xs
        → ((n : Ptr) (ms : List Ptr) (x : X.Denot) (ys : List X.Denot) → ns ≡ n ∷ ms → xs ≡ x ∷ ys → Seq K 𝓛 (‵ (node_owns R p n x) ∷ ‵ (nodes_own R n ms ys) ∷ Γ) G) → Seq K 𝓛 (‵ (nodes_own R p ns xs) ∷ Γ) G
    next_apart t p [] [] h k = absurd (omega arith)
    next_apart t p [] (x ∷ xs) h k = use1 𝓛 (given ⊥ (‵ ftrue)) (never_e 𝓤 _) $ learn t (λ no. absurd no)
    next_apart t p (n ∷ ms) [] h k = absurd (omega arith)
    next_apart t p (n ∷ ms) (x ∷ ys) h k = fsplit t $ k n ms x ys refl refl

  module _ {M : Type 1} {𝓤 : Ura M} {𝓛 : Logic 𝓤} {K : Type 0} {Γ : List (Item 𝓤)} {G : Goal 𝓤 𝓛.H} where
    -- [the node; the item; the right to free]
    pub node_out : K → (p n : Ptr) (x : X.Denot)
        → ((b o : ℕ) (v : Val) → p ≡ block_ptr b o → Good (layout X) v → Seq K 𝓛 (‵ (cell_at full_share NodeRow.mir (both (ptr_val n) v ∷ []) b o) ∷ ‵ (R.own_val x (v ∷ [])) ∷ ‵ (heap_token (bare (lone NodeRow.mir)) (block_ptr b o)) ∷ Γ) G)
        → Seq K 𝓛 (‵ (node_owns R p n x) ∷ Γ) G
    node_out t p n x k = in_a_block t p (λ (π : Ptr). node_owns R π n x) (fst∗ 𝓤 (never 𝓤) (sem 𝓛 (heap_token (bare (lone NodeRow.mir)) null_ptr))) (λ b o e. fsplit t $ node_opens t (record { next = n; item = x }) b o (λ v good. k b o v e good))

    pub node_in : K → (n : Ptr) (x : X.Denot) (v : Val) (b o : ℕ)
        → Step K 𝓛 (‵ (node_owns R (block_ptr b o) n x) ∷ Γ) G (‵ (cell_at full_share NodeRow.mir (both (ptr_val n) v ∷ []) b o) ∷ ‵ (R.own_val x (v ∷ [])) ∷ ‵ (heap_token (bare (lone NodeRow.mir)) (block_ptr b o)) ∷ Γ) G
    node_in t n x v b o = step (λ s. node_closes t n x v b o $ fjoin t $ s)

    -- a `&` to the first node's item
    pub item_seen : K → (p : Ptr) (ns : List Ptr) (xs : List X.Denot) (κ : Lft) → 0 < length xs
        → ((b o : ℕ) (x : X.Denot) (ys : List X.Denot) → p ≡ block_ptr b o → xs ≡ x ∷ ys → Seq K 𝓛 (‵ (hidden_shr R κ x b (o + item_offset)) ∷ Γ) G) → Seq K 𝓛 (‵ (next_lent R p ns xs κ) ∷ Γ) G
    item_seen t p [] [] κ h k = absurd (omega arith)
    item_seen t p [] (x ∷ ys) κ h k = use1 𝓛 (given ⊥ (‵ ftrue)) (never_e 𝓤 _) $ learn t (λ no. absurd no)
    item_seen t p (n ∷ ns) [] κ h k = absurd (omega arith)
    item_seen t null_ptr (n ∷ ns) (x ∷ ys) κ h k = fsplit t $ use1 𝓛 (given ⊥ (‵ ftrue)) (never_e 𝓤 _) $ learn t (λ no. absurd no)
    item_seen t (block_ptr b o) (n ∷ ns) (x ∷ ys) κ h k = fsplit t $ drop t $ fsplit t $ move t (1 ∷ []) $ drop t $ fsplit t $ drop t $ fsplit t $ move t (1 ∷ []) $ drop t $ hide t $ k b o x ys refl refl

    -- the node that was passed last, and those before
    pub passed_apart : K → (h p n : Ptr) (qs : List Ptr) (xs : List X.Denot) → 0 < length xs
        → ((q : Ptr) (rs : List Ptr) (x : X.Denot) (ys : List X.Denot) → qs ≡ q ∷ rs → xs ≡ x ∷ ys → Seq K 𝓛 (‵ (node_owns R p n x) ∷ ‵ (passed_own R h q p rs ys) ∷ Γ) G) → Seq K 𝓛 (‵ (passed_own R h p n qs xs) ∷ Γ) G
    passed_apart t h p n [] [] l k = absurd (omega arith)
    passed_apart t h p n [] (x ∷ xs) l k = use1 𝓛 (given ⊥ (‵ ftrue)) (never_e 𝓤 _) $ learn t (λ no. absurd no)
    passed_apart t h p n (q ∷ rs) [] l k = absurd (omega arith)
    passed_apart t h p n (q ∷ rs) (x ∷ ys) l k = fsplit t $ k q rs x ys refl refl

    -- those that were passed are put back, before those that are left
    pub all_back : K → (h p n : Ptr) (qs : List Ptr) (passed : List X.Denot) (ns : List Ptr) (left : List X.Denot)
        → ((ms : List Ptr) → Seq K 𝓛 (‵ (nodes_own R h ms (reverse passed ++ left)) ∷ Γ) G) → Seq K 𝓛 (‵ (passed_own R h p n qs passed) ∷ ‵ (nodes_own R n ns left) ∷ Γ) G
    all_back t h p n [] [] ns left k = fpick t (λ e. drop t $ rewrite t 0 (λ (π : Ptr). ‵ (nodes_own R π ns left)) (sym e) refl $ k ns)
    all_back t h p n [] (x ∷ passed) ns left k = use1 𝓛 (given ⊥ (‵ ftrue)) (never_e 𝓤 _) $ learn t (λ no. absurd no)
    all_back t h p n (q ∷ qs) [] ns left k = use1 𝓛 (given ⊥ (‵ ftrue)) (never_e 𝓤 _) $ learn t (λ no. absurd no)
    all_back t h p n (q ∷ qs) (x ∷ passed) ns left k = fsplit t $ move t (0 ∷ 2 ∷ []) $ fjoin t $ move t (1 ∷ []) $
        all_back t h q p qs passed (n ∷ ns) (x ∷ left) (λ ms. rewrite t 0 (λ (l : List X.Denot). ‵ (nodes_own R h ms l)) (back x passed left) refl $ k ms)
