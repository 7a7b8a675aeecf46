-- A file has one answer. Assumes nothing.
use Rattle.std.proofs.Common.{◌≡◌, ℕ, ◌+◌, ◌<◌, ◌≤◌, List, [], ◌∷◌, ◌++◌, length, drop, sym, refl, ap, ◌∙◌, subst, inl, inr, ⊎_elim, arith}
use Rattle.std.proofs.lemmas.List.{append_assoc, drop_at, drop-drop}
use Rattle.std.proofs.lemmas.Bool.{cases_eq, cases_order}
use Rattle.words.specs.Tables.{Refuses}
use Rattle.words.specs.Texts.{Stands}
use Rattle.words.specs.declared.fault.Told.{Told}
use Rattle.words.proofs.Clean.{stands_inside}
use Rattle.words.proofs.Deciding.{Alike, one_refusal, not_both}
use Rattle.network.specs.Drafts.{LowestOdd}
use Rattle.network.specs.Net as law
use Rattle.rows.specs.Reading.{Reads, line_checks, Refused as RefusedLine}
use Rattle.rows.specs.Rows.{text_of}
use Rattle.rows.specs.declared.kind.Stage.TheVariants.{Calls}
use Rattle.rows.specs.declared.row.Row.{Row}
use Rattle.rows.specs.declared.row.Row.TheVariants.{Net, Link, Route, Merge, Meter, Go, Call}
use Rattle.rows.proofs.OneRow.{reads_pass, reads_once}
use Rattle.reader.specs.Calls.{CallAnswer, call, ended, CallAnswers, row_of}
use Rattle.reader.specs.Calls as calls
use Rattle.rows.specs.declared.row.CallRow.{CallRow}
use Rattle.rows.specs.declared.row.CallRow.TheVariants as called
use Rattle.reader.specs.Checks.{Sound, file_checks, NodeTold}
use Rattle.reader.specs.Files.{Upto, RefusedAt, Refused, Answer, network, fault, Answers}
use Rattle.reader.specs.Files as files
use Rattle.reader.specs.Laws.{OneAnswer, OneCall}
use Rattle.reader.specs.Said.{shown, net_said, wanted, stage_of, Said, said_by}
use Rattle.reader.proofs.Standing.{stands_split, stands_from, text_some}

-- the counts of a `net` row are small
pub sound_small : (rows : List Row) → Sound rows → ((net_said rows).nodes ≤ 65535) × (wanted rows ≤ 65535)
sound_small [] s = (omega arith, omega arith)
sound_small (Net n l ∷ rows) s = (omega (arith, s.1.ranged.0.1), omega (arith, s.1.ranged.1.0.1))
sound_small (Link k ∷ rows) s = sound_small rows s.0
sound_small (Route n x k ∷ rows) s = sound_small rows s.0
sound_small (Merge u ∷ rows) s = sound_small rows s.0
sound_small (Meter n u t ∷ rows) s = sound_small rows s.0
sound_small (Go ∷ rows) s = sound_small rows s.0
sound_small (Call c ∷ rows) s = sound_small rows s.0

stands_both : (bytes : List ℕ) (p : ℕ) (s t : List ℕ) → Stands bytes p (s ++ t) → Stands bytes p s × Stands bytes (p + length s) t
stands_both bytes p s t h =
    let rest = drop (p + length (s ++ t)) bytes in
    let whole : drop p bytes ≡ s ++ (t ++ rest) = stands_split bytes p (s ++ t) h ∙ append_assoc s t rest in
    (stands_from bytes p s (t ++ rest) whole, stands_from bytes (p + length s) t rest (sym (drop-drop (length s) p bytes) ∙ ap (drop (length s)) whole ∙ drop_at s (t ++ rest) (length s) refl))

module _ (bytes : List ℕ) (p₀ : ℕ) where
  -- sound rows stand from p₀ on
  abbrev Stood : List Row → Type 0
  Stood rows = Stands bytes p₀ (shown rows) × Sound rows

  before : (r : Row) (rows : List Row) → Stood (r ∷ rows) → Stood rows
  before r rows h = ((stands_both bytes p₀ (shown rows) (text_of r) h.0).0, h.1.0)

  abbrev ReadsNext : List Row → Row → Type 0
  ReadsNext rows r = Reads bytes (p₀ + length (shown rows)) (stage_of rows) (net_said rows).nodes (wanted rows) r

  newest : (r : Row) (rows : List Row) → Stood (r ∷ rows) → ReadsNext rows r
  newest r rows h = record { text = (stands_both bytes p₀ (shown rows) (text_of r) h.0).1; order = h.1.1.order; ranged = h.1.1.ranged }

  next_once : (rows : List Row) (r s : Row) → Sound rows → ReadsNext rows r → ReadsNext rows s → r ≡ s
  next_once rows r s h a b = let few = sound_small rows h in reads_once bytes (p₀ + length (shown rows)) (stage_of rows) (net_said rows).nodes (wanted rows) few.0 few.1 r s a b

  same_rows : (a b : List Row) → length a ≡ length b → Stood a → Stood b → a ≡ b
  same_rows [] [] e x y = refl
  same_rows [] (s ∷ b) e x y = absurd (omega arith)
  same_rows (r ∷ a) [] e x y = absurd (omega arith)
  same_rows (r ∷ a) (s ∷ b) e x y =
      let rest = same_rows a b (omega arith) (before r a x) (before s b y) in
      let s' = subst (λ (z : List Row). ReadsNext z s) (sym rest) (newest s b y) in
      λ i. next_once a r s x.1.0 (newest r a x) s' i ∷ rest i

  -- of two that stand, the longer goes on where the shorter ends
  longer : (a b : List Row) → Stood a → Stood b → length a < length b → (r : Row) × Stood (r ∷ a)
  longer a [] x y lt = absurd (omega arith)
  longer a (s ∷ b) x y lt =
      ⊎_elim
      (λ e. (s, subst (λ (z : List Row). Stood (s ∷ z)) (sym (same_rows a b e x (before s b y))) y))
      (λ ne. longer a b x (before s b y) (omega arith))
      (cases_eq (length a) (length b))

  inside : (r : Row) (rows : List Row) → ReadsNext rows r → p₀ + length (shown rows) < length bytes
  inside r rows h = omega (arith, stands_inside bytes (p₀ + length (shown rows)) (text_of r) h.text (text_some r), text_some r)

  -- behind rows that a row follows nothing is refused
  no_refusal : (rows : List Row) (l : ℕ) (t : Told) (r : Row) → Stood (r ∷ rows) → RefusedAt bytes rows l (p₀ + length (shown rows)) t → ⊥
  no_refusal rows l t r h (inl a) = omega (arith, inside r rows (newest r rows h), a.0)
  no_refusal rows l t r h (inr (inl a)) =
      let few = sound_small rows h.1.0 in
      not_both (line_checks bytes (p₀ + length (shown rows)) (stage_of rows) (net_said rows).nodes (wanted rows)) t (reads_pass bytes (p₀ + length (shown rows)) (stage_of rows) (net_said rows).nodes (wanted rows) few.0 few.1 r (newest r rows h)) a.1.checks
  no_refusal rows l t r h (inr (inr a)) =
      let same = next_once rows a.0 r h.1.0 a.1 (newest r rows h) in
      not_both (file_checks rows r (p₀ + length (shown rows))) t (h.1.1.passes (p₀ + length (shown rows))) (subst (λ (z : Row). Refuses (file_checks rows z (p₀ + length (shown rows))) t) same a.2)

same_told : (t u : Told) → Alike t u → t.line ≡ u.line → t.node ≡ u.node → t ≡ u
same_told t u a l n = λ i. record { number = a.number i; line = l i; place = a.place i; layer = a.layer i; node = n i }

one_odd : (net : law.Net) (m n : ℕ) → LowestOdd net m → LowestOdd net n → m ≡ n
one_odd net m n a b =
    ⊎_elim
    (λ e. e)
    (λ o. ⊎_elim (λ lt. absurd (a.odd (b.below m a.least lt))) (λ gt. absurd (b.odd (a.below n b.least gt))) o)
    (cases_order m n)

same_node : (rows : List Row) (r : Row) (t u : Told) → t.number ≡ u.number → NodeTold rows r t → NodeTold rows r u → t.node ≡ u.node
same_node rows r t u e a b =
    ⊎_elim
    (λ is. one_odd (net_said (r ∷ rows)) t.node u.node (a.odd is) (b.odd (sym e ∙ is)))
    (λ no'. a.other no' ∙ sym (b.other (λ z. no' (e ∙ z))))
    (cases_eq t.number 22)

-- at one place one thing is refused
one_fault : (bytes : List ℕ) (p₀ : ℕ) (rows : List Row) (l : ℕ) (t u : Told) → Sound rows → RefusedAt bytes rows l (p₀ + length (shown rows)) t → RefusedAt bytes rows l (p₀ + length (shown rows)) u → t ≡ u
one_fault bytes p₀ rows l t u s (inl a) (inl b) = a.1 ∙ sym b.1
one_fault bytes p₀ rows l t u s (inl a) (inr (inl b)) = absurd (let lt = b.0 in omega (arith, a.0))
one_fault bytes p₀ rows l t u s (inl a) (inr (inr b)) = absurd (omega (arith, inside bytes p₀ b.0 rows b.1, a.0))
one_fault bytes p₀ rows l t u s (inr (inl a)) (inl b) = absurd (let lt = a.0 in omega (arith, b.0))
one_fault bytes p₀ rows l t u s (inr (inl a)) (inr (inl b)) =
    same_told t u (one_refusal (line_checks bytes (p₀ + length (shown rows)) (stage_of rows) (net_said rows).nodes (wanted rows)) t u a.1.checks b.1.checks) (a.1.line ∙ sym b.1.line) (a.1.node ∙ sym b.1.node)
one_fault bytes p₀ rows l t u s (inr (inl a)) (inr (inr b)) =
    let few = sound_small rows s in
    absurd (not_both (line_checks bytes (p₀ + length (shown rows)) (stage_of rows) (net_said rows).nodes (wanted rows)) t (reads_pass bytes (p₀ + length (shown rows)) (stage_of rows) (net_said rows).nodes (wanted rows) few.0 few.1 b.0 b.1) a.1.checks)
one_fault bytes p₀ rows l t u s (inr (inr a)) (inl b) = absurd (omega (arith, inside bytes p₀ a.0 rows a.1, b.0))
one_fault bytes p₀ rows l t u s (inr (inr a)) (inr (inl b)) =
    let few = sound_small rows s in
    absurd (not_both (line_checks bytes (p₀ + length (shown rows)) (stage_of rows) (net_said rows).nodes (wanted rows)) u (reads_pass bytes (p₀ + length (shown rows)) (stage_of rows) (net_said rows).nodes (wanted rows) few.0 few.1 a.0 a.1) b.1.checks)
one_fault bytes p₀ rows l t u s (inr (inr a)) (inr (inr b)) =
    let same = next_once bytes p₀ rows b.0 a.0 s b.1 a.1 in
    let bad = subst (λ (z : Row). Refuses (file_checks rows z (p₀ + length (shown rows))) u) same b.2 in
    let node = subst (λ (z : Row). NodeTold rows z u) same b.4 in
    let alike = one_refusal (file_checks rows a.0 (p₀ + length (shown rows))) t u a.2 bad in
    same_told t u alike (a.3 ∙ sym b.3) (same_node rows a.0 t u alike.number a.4 node)

module _ (bytes : List ℕ) (l₀ p₀ : ℕ) where
  stood : (rows : List Row) (l p : ℕ) → Upto bytes l₀ p₀ rows l p → Stood bytes p₀ rows
  stood rows l p u = (u.text, u.sound)

  placed : (rows : List Row) (l p : ℕ) (t : Told) → Upto bytes l₀ p₀ rows l p → RefusedAt bytes rows l p t → RefusedAt bytes rows (l₀ + length rows) (p₀ + length (shown rows)) t
  placed rows l p t u h = subst (λ (x : ℕ × ℕ). RefusedAt bytes rows x.0 x.1 t) (λ i. (u.line i, u.place i)) h

  -- nothing follows `go`
  go_last : (a b : List Row) → Stood bytes p₀ (Go ∷ a) → Stood bytes p₀ b → length (Go ∷ a) < length b → ⊥
  go_last a b x y lt = (longer bytes p₀ (Go ∷ a) b x y lt).1.1.1.going refl

  two_networks : (s t : Said) (l p l' p' k q k' q' : ℕ) → files.Network bytes l₀ p₀ s l p l' p' → files.Network bytes l₀ p₀ t k q k' q' → network s l p l' p' ≡ network t k q k' q'
  two_networks s t l p l' p' k q k' q' a b =
      let x = stood (Go ∷ a.rows) l' p' a.whole in
      let y = stood (Go ∷ b.rows) k' q' b.whole in
      ⊎_elim
      (λ e.
      let rest = same_rows bytes p₀ a.rows b.rows (omega arith) (before bytes p₀ Go a.rows x) (before bytes p₀ Go b.rows y) in
      let es : s ≡ t = a.says ∙ ap (λ (z : List Row). said_by (Go ∷ z)) rest ∙ sym b.says in
      let el : l ≡ k = omega (arith, a.head.line, b.head.line) in
      let ep : p ≡ q = a.head.place ∙ ap (λ (z : List Row). p₀ + length (shown z)) rest ∙ sym b.head.place in
      let el' : l' ≡ k' = omega (arith, a.whole.line, b.whole.line) in
      let ep' : p' ≡ q' = a.whole.place ∙ ap (λ (z : List Row). p₀ + length (shown (Go ∷ z))) rest ∙ sym b.whole.place in
      λ i. network (es i) (el i) (ep i) (el' i) (ep' i))
      (λ o. ⊎_elim (λ lt. absurd (go_last a.rows (Go ∷ b.rows) x y lt)) (λ gt. absurd (go_last b.rows (Go ∷ a.rows) y x gt)) o)
      (cases_order (length (Go ∷ a.rows)) (length (Go ∷ b.rows)))

  not_both_answers : (s : Said) (t : Told) (l p l' p' : ℕ) → files.Network bytes l₀ p₀ s l p l' p' → Refused bytes l₀ p₀ t → ⊥
  not_both_answers s t l p l' p' a b =
      let x = stood (Go ∷ a.rows) l' p' a.whole in
      let y = stood b.rows b.line b.place b.read in
      ⊎_elim
      (λ e. b.going (ap stage_of (sym (same_rows bytes p₀ (Go ∷ a.rows) b.rows e x y))))
      (λ o.
      ⊎_elim
      (λ lt. go_last a.rows b.rows x y lt)
      (λ gt. let more = longer bytes p₀ b.rows (Go ∷ a.rows) y x gt in no_refusal bytes p₀ b.rows (l₀ + length b.rows) t more.0 more.1 (placed b.rows b.line b.place t b.read b.here))
      o)
      (cases_order (length (Go ∷ a.rows)) (length b.rows))

  two_faults : (t u : Told) → Refused bytes l₀ p₀ t → Refused bytes l₀ p₀ u → t ≡ u
  two_faults t u a b =
      let x = stood a.rows a.line a.place a.read in
      let y = stood b.rows b.line b.place b.read in
      let ha = placed a.rows a.line a.place t a.read a.here in
      let hb = placed b.rows b.line b.place u b.read b.here in
      ⊎_elim
      (λ e.
      let same = same_rows bytes p₀ b.rows a.rows (sym e) y x in
      one_fault bytes p₀ a.rows (l₀ + length a.rows) t u x.1 ha (subst (λ (z : List Row). RefusedAt bytes z (l₀ + length z) (p₀ + length (shown z)) u) same hb))
      (λ o.
      ⊎_elim
      (λ lt. let more = longer bytes p₀ a.rows b.rows x y lt in absurd (no_refusal bytes p₀ a.rows (l₀ + length a.rows) t more.0 more.1 ha))
      (λ gt. let more = longer bytes p₀ b.rows a.rows y x gt in absurd (no_refusal bytes p₀ b.rows (l₀ + length b.rows) u more.0 more.1 hb))
      o)
      (cases_order (length a.rows) (length b.rows))

pub one_answer : OneAnswer
one_answer bytes l₀ p₀ (network s l p l' p') (network t k q k' q') a b = two_networks bytes l₀ p₀ s t l p l' p' k q k' q' a.1 b.1
one_answer bytes l₀ p₀ (network s l p l' p') (fault t) a (inl b) = absurd (let lt = b.0 in omega (arith, a.0))
one_answer bytes l₀ p₀ (network s l p l' p') (fault t) a (inr b) = absurd (not_both_answers bytes l₀ p₀ s t l p l' p' a.1 b.1)
one_answer bytes l₀ p₀ (fault t) (network s l p l' p') (inl a) b = absurd (let lt = a.0 in omega (arith, b.0))
one_answer bytes l₀ p₀ (fault t) (network s l p l' p') (inr a) b = absurd (not_both_answers bytes l₀ p₀ s t l p l' p' b.1 a.1)
one_answer bytes l₀ p₀ (fault t) (fault u) (inl a) (inl b) = ap fault (a.1 ∙ sym b.1)
one_answer bytes l₀ p₀ (fault t) (fault u) (inl a) (inr b) = absurd (let lt = a.0 in omega (arith, b.0))
one_answer bytes l₀ p₀ (fault t) (fault u) (inr a) (inl b) = absurd (let lt = b.0 in omega (arith, a.0))
one_answer bytes l₀ p₀ (fault t) (fault u) (inr a) (inr b) = ap fault (two_faults bytes l₀ p₀ t u a.1 b.1)

-- a call, found again in its row
abbrev call_in : Row → CallRow
call_in r = elim r [ Net n l ↦ called.Show | Link k ↦ called.Show | Route n x k ↦ called.Show | Merge u ↦ called.Show | Meter n u t ↦ called.Show | Go ↦ called.Show | Call c ↦ c ]

call_again : (c : CallRow) → call_in (row_of c) ≡ c
call_again c = refl

reads_in : (bytes : List ℕ) (p : ℕ) (r : Row) → Reads bytes p Calls 0 0 r → p < length bytes
reads_in bytes p r h = omega (arith, stands_inside bytes p (text_of r) h.text (text_some r), text_some r)

no_fault : (bytes : List ℕ) (l p : ℕ) (r : Row) (t : Told) → Reads bytes p Calls 0 0 r → RefusedLine bytes p l Calls 0 0 t → ⊥
no_fault bytes l p r t h bad = not_both (line_checks bytes p Calls 0 0) t (reads_pass bytes p Calls 0 0 (omega arith) (omega arith) r h) bad.checks

pub one_call : OneCall
one_call bytes l p (call c l' p') (call d k q) a b =
    let rows = reads_once bytes p Calls 0 0 (omega arith) (omega arith) (row_of c) (row_of d) a.1 b.1 in
    let same : c ≡ d = sym (call_again c) ∙ ap call_in rows ∙ call_again d in
    λ i. call (same i) ((a.2 ∙ sym b.2) i) ((a.3 ∙ ap (λ (r : Row). p + length (text_of r)) rows ∙ sym b.3) i)
one_call bytes l p (call c l' p') ended a b = absurd (omega (arith, reads_in bytes p (row_of c) a.1, b.1))
one_call bytes l p (call c l' p') (calls.fault t) a (inl b) = absurd (let lt = b.0 in omega (arith, a.0))
one_call bytes l p (call c l' p') (calls.fault t) a (inr b) = absurd (no_fault bytes l p (row_of c) t a.1 b.2)
one_call bytes l p ended (call c l' p') a b = absurd (omega (arith, reads_in bytes p (row_of c) b.1, a.1))
one_call bytes l p ended ended a b = refl
one_call bytes l p ended (calls.fault t) a (inl b) = absurd (let lt = b.0 in omega (arith, a.0))
one_call bytes l p ended (calls.fault t) a (inr b) = absurd (let lt = b.1 in omega (arith, a.1))
one_call bytes l p (calls.fault t) (call c l' p') (inl a) b = absurd (let lt = a.0 in omega (arith, b.0))
one_call bytes l p (calls.fault t) (call c l' p') (inr a) b = absurd (no_fault bytes l p (row_of c) t b.1 a.2)
one_call bytes l p (calls.fault t) ended (inl a) b = absurd (let lt = a.0 in omega (arith, b.0))
one_call bytes l p (calls.fault t) ended (inr a) b = absurd (let lt = a.1 in omega (arith, b.1))
one_call bytes l p (calls.fault t) (calls.fault u) (inl a) (inl b) = ap calls.fault (a.1 ∙ sym b.1)
one_call bytes l p (calls.fault t) (calls.fault u) (inl a) (inr b) = absurd (let lt = a.0 in omega (arith, b.0))
one_call bytes l p (calls.fault t) (calls.fault u) (inr a) (inl b) = absurd (let lt = b.0 in omega (arith, a.0))
one_call bytes l p (calls.fault t) (calls.fault u) (inr a) (inr b) =
    ap calls.fault (same_told t u (one_refusal (line_checks bytes p Calls 0 0) t u a.2.checks b.2.checks) (a.2.line ∙ sym b.2.line) (a.2.node ∙ sym b.2.node))
