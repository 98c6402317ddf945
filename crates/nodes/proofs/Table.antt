-- Laws of the term table. Assumes nothing.
use mathlib.Core.Path.{◌≡◌, refl, sym, ap, ap₂, subst, ◌∙◌}
use mathlib.Core.Logic.{⊎_elim}
use mathlib.Core.List.{List, []}
use Prim.Native.Nat.{ℕ, zero, suc, ◌+◌, ◌*◌, ◌%◌, ◌<◌, ◌≤◌}
use native.Mathlib.Nat.{eq-or-lt_of_le, le_of_suc-le-suc, not-suc-le-zero}
use native.Mathlib.Numerals.{add-one}
use native.Mathlib.Omega.{arith}
use lib.ListN.{length, get_or, length-append, get_or-append}
use lib.Seq.{get_or_at}
use Rattle.model.specs.Term.{constant, shift}
use Rattle.model.specs.Verdict.{least_workspace}
use Rattle.workspace.specs.Layout.{table_base, most_table_nodes, Same, stored}
use Rattle.nodes.specs.Table.{low, high, place, parts_at, value_at, marks_at, node_of_tag, view_of, build, operation_of, terms_below, term_at, term_of, value_of, InOrder, Marked, Shaped, Formed, Put, Space, Fits, Twinned}
use Rattle.nodes.specs.declared.Node.{Node}
use Rattle.nodes.specs.declared.Node.TheVariants.{Constant, Variable, Pair, Shift}
use Rattle.workspace.proofs.Frames.{same_trans, same_within, stored_length, stored_before, stored_first, stored_second, stored_third}

-- a tag above those of the operations is a shift's
pub shift_tag : (t p v : ℕ) → 4 < t → node_of_tag t p v ≡ Shift (high p) (low p)
shift_tag zero p v h = absurd (omega arith)
shift_tag (suc zero) p v h = absurd (omega arith)
shift_tag (suc (suc zero)) p v h = absurd (omega arith)
shift_tag (suc (suc (suc zero))) p v h = absurd (omega arith)
shift_tag (suc (suc (suc (suc zero)))) p v h = absurd (omega arith)
shift_tag (suc (suc (suc (suc (suc t))))) p v h = refl

-- the parts of an operation come before it
first_before : (i t p v : ℕ) → 1 < t → InOrder i (node_of_tag t p v) → low p < i
first_before i zero p v h b = absurd (omega arith)
first_before i (suc zero) p v h b = absurd (omega arith)
first_before i (suc (suc zero)) p v h b = b.0
first_before i (suc (suc (suc zero))) p v h b = b.0
first_before i (suc (suc (suc (suc zero)))) p v h b = b.0
first_before i (suc (suc (suc (suc (suc t))))) p v h b = b

second_before : (i t p v : ℕ) → (1 < t) × (t < 5) → InOrder i (node_of_tag t p v) → high p < i
second_before i zero p v h b = absurd (omega arith)
second_before i (suc zero) p v h b = absurd (omega arith)
second_before i (suc (suc zero)) p v h b = b.1
second_before i (suc (suc (suc zero))) p v h b = b.1
second_before i (suc (suc (suc (suc zero)))) p v h b = b.1
second_before i (suc (suc (suc (suc (suc t))))) p v h b = absurd (omega arith)

-- ---- the terms of a table
length_terms : (ws : List ℕ) (n : ℕ) → length (terms_below ws n) ≡ n
unfolding terms_below
length_terms ws zero = refl
length_terms ws (suc n) = length-append (terms_below ws n) _ ∙ rw (length_terms ws n) (add-one n)

terms_at : (ws : List ℕ) (n i : ℕ) → i < n → get_or (terms_below ws n) i (constant 0) ≡ term_at ws i
unfolding terms_below term_at
terms_at ws zero i h = absurd (not-suc-le-zero h)
terms_at ws (suc n) i h =
    ⊎_elim
    (λ e. rw e)
    (λ l. get_or-append (terms_below ws n) _ (constant 0) i (rw length_terms l) ∙ terms_at ws n i l)
    (eq-or-lt_of_le (le_of_suc-le-suc h))

build_in_order : (ws : List ℕ) (i : ℕ) (n : Node) → InOrder i n → build (λ j. get_or (terms_below ws i) j (constant 0)) n ≡ build (term_at ws) n
build_in_order ws i (Constant n) b = refl
build_in_order ws i (Variable v) b = refl
build_in_order ws i (Pair o l r) b = ap₂ (operation_of o) (terms_at ws i l b.0) (terms_at ws i r b.1)
build_in_order ws i (Shift count l) b = ap (shift count) (terms_at ws i l b)

-- a node's term is built of its parts' terms
pub built : (ws : List ℕ) (i : ℕ) → InOrder i (view_of ws i) → term_at ws i ≡ build (term_at ws) (view_of ws i)
unfolding terms_below term_at
built ws i b = get_or_at (terms_below ws i) _ [] (constant 0) i (length_terms ws i) ∙ build_in_order ws i (view_of ws i) b

-- a shorter table
pub shaped_less : {ws : List ℕ} {n : ℕ} (m : ℕ) → m ≤ n → Shaped ws n → Shaped ws m
shaped_less m h f = record { words = f.words; fits = omega (arith, f.fits); nodes = λ i l. f.nodes i (omega arith); marked = λ i l. f.marked i (omega arith) }

pub formed_less : {ws : List ℕ} {n : ℕ} (m : ℕ) → m ≤ n → Formed ws n → Formed ws m
formed_less m h f = record { shaped = shaped_less m h f.shaped; values = λ i l. f.values i (omega arith) }

-- no node
pub formed_none : {ws : List ℕ} → least_workspace ≤ length ws → Formed ws 0
formed_none h = record {
  shaped = record { words = h; fits = omega arith; nodes = λ i l. absurd (omega arith); marked = λ i l. absurd (omega arith) };
  values = λ i l. absurd (omega arith);
}

-- ---- node i
module _ {ws : List ℕ} {i : ℕ} (f : Shaped ws (suc i)) where
  pub marks_here : Marked ws i
  marks_here = f.marked i (omega arith)

  pub order_here : InOrder i (view_of ws i)
  order_here = f.nodes i (omega arith)

  pub built_here : term_at ws i ≡ build (term_at ws) (view_of ws i)
  built_here = built ws i order_here

  pub shaped_part : {j : ℕ} → j < i → Shaped ws (suc j)
  shaped_part h = shaped_less _ (omega arith) f

  -- the parts of an operation, as they are read, come before it
  pub first_part : {tag x : ℕ} → tag ≡ marks_at ws i % 8 → x ≡ low (parts_at ws i) → 1 < tag → x < i
  unfolding view_of
  first_part q e h = rw e (first_before i (marks_at ws i % 8) (parts_at ws i) (value_at ws i) (omega arith) order_here)

  pub second_part : {tag y : ℕ} → tag ≡ marks_at ws i % 8 → y ≡ high (parts_at ws i) → (1 < tag) × (tag < 5) → y < i
  unfolding view_of
  second_part q e h = rw e (second_before i (marks_at ws i % 8) (parts_at ws i) (value_at ws i) (omega arith, omega arith) order_here)

  -- as an arm of `match view(..)` knows it
  module _ {n : Node} (e : n ≡ view_of ws i) where
    pub node_order : InOrder i n
    node_order = subst (InOrder i) (sym e) order_here

    pub node_built : term_at ws i ≡ build (term_at ws) n
    node_built = built_here ∙ ap (build (term_at ws)) (sym e)

module _ {ws : List ℕ} {i : ℕ} (f : Formed ws (suc i)) where
  pub value_here : value_at ws i ≡ value_of (term_at ws i)
  value_here = f.values i (omega arith)

  pub part : {j : ℕ} → j < i → Formed ws (suc j)
  part h = formed_less _ (omega arith) f

-- nodes for which the same node stands have the same term
pub same_terms : {ws : List ℕ} {i j : ℕ} → Shaped ws (suc i) → Shaped ws (suc j) → high (marks_at ws i) ≡ high (marks_at ws j) → term_at ws i ≡ term_at ws j
same_terms {ws} f g e = sym (marks_here f).twin ∙ ap (term_at ws) e ∙ (marks_here g).twin

-- ---- the terms of a table go by its nodes alone, whatever else the words hold
module _ (ws us : List ℕ) (n : ℕ) (views : (i : ℕ) → i < n → view_of us i ≡ view_of ws i) where
  terms_viewed : (m : ℕ) → m ≤ n → terms_below us m ≡ terms_below ws m
  unfolding terms_below
  terms_viewed zero h = refl
  terms_viewed (suc m) h = rw (terms_viewed m (omega arith), views m h)

  pub term_viewed : (i : ℕ) → i < n → term_at us i ≡ term_at ws i
  unfolding term_at
  term_viewed i h = ap (λ l. get_or l i (constant 0)) (terms_viewed (suc i) h)

  module _ (marks : (i : ℕ) → i < n → marks_at us i ≡ marks_at ws i) where
    marked_viewed : (i : ℕ) → i < n → Marked ws i → Marked us i
    marked_viewed i h k =
        let t : term_at us i ≡ term_at ws i = term_viewed i h in
        let m : marks_at us i ≡ marks_at ws i = marks i h in
        record {
          facts = rw (m, t) k.facts;
          before = rw m k.before;
          twin = rw (m, t, term_viewed (high (marks_at ws i)) (omega (arith, k.before))) k.twin;
        }

    pub shaped_viewed : length us ≡ length ws → Shaped ws n → Shaped us n
    shaped_viewed e f = record { words = omega (arith, f.words); fits = f.fits; nodes = λ i h. rw (views i h) (f.nodes i h); marked = λ i h. marked_viewed i h (f.marked i h) }

-- ---- words that keep the table
module _ {ws us : List ℕ} where
  node_same : (n : ℕ) → Same table_base (place n) ws us → (i : ℕ) → i < n → view_of us i ≡ view_of ws i
  unfolding view_of
  node_same n s i h = rw (s.word (place i) (omega arith) (omega arith), s.word (place i + 1) (omega arith) (omega arith), s.word (place i + 2) (omega arith) (omega arith))

  pub term_same : (n : ℕ) → Same table_base (place n) ws us → (i : ℕ) → i < n → term_at us i ≡ term_at ws i
  term_same n s = term_viewed ws us n (node_same n s)

  pub formed_same : (n : ℕ) → Same table_base (place n) ws us → length us ≡ length ws → Formed ws n → Formed us n
  formed_same n s e f = record {
    shaped = shaped_viewed ws us n (node_same n s) (λ i h. s.word (place i + 2) (omega arith) (omega arith)) e f.shaped;
    values = λ i h. rw (s.word (place i + 1) (omega arith) (omega arith), term_same n s i h) (f.values i h);
  }

  build_same : (n : ℕ) → Same table_base (place n) ws us → (o : Node) → InOrder n o → build (term_at us) o ≡ build (term_at ws) o
  build_same n s (Constant v) b = refl
  build_same n s (Variable v) b = refl
  build_same n s (Pair o l r) b = ap₂ (operation_of o) (term_same n s l b.0) (term_same n s r b.1)
  build_same n s (Shift count l) b = ap (shift count) (term_same n s l b)

-- of each of the first nodes, and of one more
and_last : {P : ℕ → Type 0} (n : ℕ) → ((i : ℕ) → i < n → P i) → P n → (i : ℕ) → i < suc n → P i
and_last {P} n f p i l = ⊎_elim (λ e. subst P (sym e) p) (λ m. f i m) (eq-or-lt_of_le (le_of_suc-le-suc l))

formed_more : {ws : List ℕ} {n : ℕ} → Formed ws n → suc n ≤ most_table_nodes → InOrder n (view_of ws n) → Marked ws n → value_at ws n ≡ value_of (term_at ws n) → Formed ws (suc n)
formed_more {ws} {n} f h b k v = record {
  shaped = record { words = f.shaped.words; fits = h; nodes = and_last n f.shaped.nodes b; marked = and_last n f.shaped.marked k };
  values = and_last n f.values v;
}

pub found_in : {ws vs : List ℕ} {top parts value facts first : ℕ} → Twinned ws vs top parts value facts first → first ≤ top
found_in t = ⊎_elim (λ h. omega arith) (λ h. omega (arith, h.0)) t.found

-- ---- what a node put at the top says: vs are the words once its twin `first` is found, us those once it is stored
module _ {ws vs us : List ℕ} {top parts value facts first : ℕ} (f : Formed ws top) (room : Space ws top 1) (fits : Fits ws top parts value facts) (small : facts < 65536) (t : Twinned ws vs top parts value facts first) (long : length vs ≡ length ws) (e : us ≡ stored vs (place top) parts value (facts + 65536 * first)) where
  abbrev marks : ℕ
  marks = facts + 65536 * first

  enough : place top + 3 ≤ length vs
  enough = omega (arith, room.words, room.fits)

  new_marks : marks_at us top ≡ marks
  new_marks = rw (e, stored_third vs (place top) parts value marks enough)

  new_node : view_of us top ≡ node_of_tag (facts % 8) parts value
  unfolding view_of
  new_node =
      let m : marks % 8 ≡ facts % 8 = omega arith in
      rw (new_marks, m, e, stored_first vs (place top) parts value marks enough, stored_second vs (place top) parts value marks enough)

  below_top : Same 0 (place top) ws us
  below_top = same_trans (same_within 0 (place top) (omega arith) (omega (arith, room.fits)) t.kept) (subst (λ l. Same 0 (place top) vs l) (sym e) (stored_before vs (place top) parts value marks 0 (place top) (omega arith)))

  table : Same table_base (place top) ws us
  table = same_within table_base (place top) (omega arith) (omega arith) below_top

  new_order : InOrder top (view_of us top)
  new_order = rw new_node fits.order

  new_term : term_at us top ≡ term_of ws parts value facts
  new_term = built us top new_order ∙ ap (build (term_at us)) new_node ∙ build_same top table (node_of_tag (facts % 8) parts value) fits.order

  first_term : term_at us first ≡ term_at us top
  first_term =
      ⊎_elim
      (λ h. ap (term_at us) h)
      (λ h. term_same top table first h.0 ∙ built ws first (f.shaped.nodes first h.0) ∙ ap (build (term_at ws)) h.1 ∙ sym new_term)
      t.found

  new_marked : Marked us top
  new_marked =
      let l : low marks ≡ facts = omega arith in
      let h : high marks ≡ first = omega arith in
      record {
        facts = rw (new_marks, l, new_term) fits.facts_are;
        before = rw (new_marks, h) (found_in t);
        twin = rw (new_marks, h) first_term;
      }

  new_value : value_at us top ≡ value_of (term_at us top)
  new_value = rw (new_term, e, stored_second vs (place top) parts value marks enough) fits.value_is

  pub put_node : Put ws us top (term_of ws parts value facts)
  put_node = record {
    kept = below_top;
    formed = formed_more (formed_same top table (ap length e ∙ stored_length vs (place top) parts value marks ∙ long) f) (omega (arith, room.fits)) new_order new_marked new_value;
    is = new_term;
  }
