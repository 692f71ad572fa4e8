-- What a run handed over to be written is the listing of the texts that it read, by the turns (`turns-tell`) and by what reading the traverse came to (`file-tells` of
-- `files`). Assumes nothing.
use Rattle.std.specs.Prelude.{Result, Ok, Err}
use mathlib.Core.Path.{◌≡◌, refl, sym, ap, subst, ◌∙◌}
use mathlib.Core.Bool.{Bool, true, false}
use mathlib.Core.List.{List, [], ◌∷◌, ◌++◌, append_assoc, append-nil}
use native.Mathlib.Omega.{arith}
use Prim.Native.Nat.{ℕ, zero, suc, ◌+◌, ◌-◌, ◌*◌, ◌≤◌}
use lib.ListN.{length, take, get_or, replicate}
use lib.Seq.{length-take-le}
use lib.IntN.{ℤ, pos}
use Rattle.records.specs.declared.Refusal.{Refusal}
use Rattle.records.specs.Groups.{wholes, of_row, groups, flat}
use Rattle.records.specs.Limits.{most_points}
use Rattle.records.specs.Rows.{fresh_row}
use Rattle.records.specs.declared.Row.{Row}
use Rattle.records.specs.Shapes.{Traverse, count}
use Rattle.records.proofs.GroupLaws.{groups-length}
use Rattle.records.proofs.GroupLaws.{wholes-times}
use Rattle.reader.specs.declared.traverse.TraverseRead.{TraverseRead}
use Rattle.reader.specs.Lines.{Outcome, read, refused, Leaves, leaves}
use Rattle.reader.specs.Traverse.{held, start, no_points, rest_at, traverse_read, traverse_left, traverse_by, traverse_of}
use Rattle.reader.specs.Storm.{record_size, storm_of}
use Rattle.listing.specs.Lines.{names_line, refused_line, failed_line}
use Rattle.listing.specs.Put.{written}
use Rattle.march.specs.Answers.{ToldOpen, opened, not_opened}
use Rattle.march.specs.Given.{segments}
use Rattle.march.specs.Checks.{open_of}
use Rattle.march.specs.March.{fresh_row_at}
use Rattle.march.specs.Demand3.{fresh_rows}
use Rattle.files.specs.declared.Stop.{Stop}
use Rattle.files.specs.declared.Stop.TheVariants as stop
use Rattle.files.specs.TraverseFile.{Continues, Tells, HasPoints}
use Rattle.files.specs.TraverseFile as files
use Rattle.files.proofs.PointsRead.{loads-has}
use Rattle.files.proofs.Reached.{file-tells}
use Rattle.hydrograph.specs.Listing.{refusal_line, storm_lines, after_opening, after_traverse, listing_of}
use Rattle.hydrograph.specs.Turns.{LeftTurn, line_room}
use Rattle.surge.specs.Standing.{no_rows, Memory, memory}
use Rattle.surge.specs.Printed.{text_read, handed_on, begun_at, MarchesSome, begin_on, AfterBegin, traverse_in, rows_in, AfterFile}
use Rattle.surge.specs.Listing.{How, whole, read-failed, cut_short, PrintedOf, how_marched, came_after, came_from, RunPrints}
use Rattle.surge.proofs.Begun.{begun_by, begin-is}
use Rattle.surge.proofs.Turns.{take-written, turns-tell}

-- ---- the rows that `main` lends are those of a fresh traverse

zeros : (n m : ℕ) → n ≤ m → take n (replicate m (pos 0)) ≡ replicate n (pos 0)
zeros zero m h = refl
zeros (suc n) zero h = absurd (omega arith)
zeros (suc n) (suc m) h = ap (λ (l : List ℤ). pos 0 ∷ l) (zeros n m (omega arith))

flat-zeros : (rows : List Row) → ((i : ℕ) → get_or rows i fresh_row ≡ fresh_row) → flat of_row rows ≡ replicate (3 * length rows) (pos 0)
unfolding flat
flat-zeros [] h = refl
flat-zeros (v ∷ rows) h =
    let e : suc (suc (suc (3 * length rows))) ≡ 3 * suc (length rows) = omega arith in
    subst (λ (k : ℕ). v.low ∷ v.high ∷ v.cross ∷ flat of_row rows ≡ replicate k (pos 0)) e
    (ap (λ (u : Row). u.low ∷ u.high ∷ u.cross ∷ flat of_row rows) (h 0) ∙ ap (λ (l : List ℤ). pos 0 ∷ pos 0 ∷ pos 0 ∷ l) (flat-zeros rows (λ i. h (suc i))))

-- past a list's end its default stands, so one more of that changes nothing
one_more : (l : List Row) (i : ℕ) → get_or (l ++ (fresh_row ∷ [])) i fresh_row ≡ get_or l i fresh_row
one_more [] zero = refl
one_more [] (suc i) = refl
one_more (v ∷ l) zero = refl
one_more (v ∷ l) (suc i) = one_more l i

all-fresh : (t : Traverse) (n i : ℕ) → get_or (groups (fresh_row_at t) n) i fresh_row ≡ fresh_row
unfolding groups
all-fresh t zero i = refl
all-fresh t (suc n) i = one_more (groups (fresh_row_at t) n) i ∙ all-fresh t n i

count-is : (file : TraverseRead) (points : List ℤ) → 2 * file.count ≤ length points → count (traverse_in file points) ≡ file.count
count-is file points b = ap (λ (k : ℕ). wholes 2 k) (length-take-le (2 * file.count) points b) ∙ wholes-times 2 file.count (omega arith)

rows_are : (file : TraverseRead) (points : List ℤ) → 2 ≤ file.count → 2 * file.count ≤ length points → file.count ≤ 65 → take (rows_in file) no_rows ≡ fresh_rows (traverse_in file points)
rows_are file points a b c =
    let t = traverse_in file points in
    let n = count-is file points b in
    zeros (rows_in file) 192 (omega arith)
    ∙ ap (λ (k : ℕ). replicate (3 * (k - 1)) (pos 0)) (sym n)
    ∙ ap (λ (k : ℕ). replicate (3 * k) (pos 0)) (sym (groups-length (fresh_row_at t) (segments t)))
    ∙ sym (flat-zeros (groups (fresh_row_at t) (segments t)) (all-fresh t (segments t)))

-- ---- what is printed of a listing, behind other bytes

behind : (how : How) (first printed listing : List ℕ) → PrintedOf how printed listing → PrintedOf how (first ++ printed) (first ++ listing)
behind whole first printed listing p = ap (λ (l : List ℕ). first ++ l) p
behind read-failed first printed listing p =
    record {
      sound = first ++ p.sound;
      line = ap (λ (l : List ℕ). first ++ l) p.line ∙ sym (append_assoc first p.sound failed_line);
      begins = record { rest = p.begins.rest; joined = append_assoc first p.sound p.begins.rest ∙ ap (λ (l : List ℕ). first ++ l) p.begins.joined };
    }
behind cut_short first printed listing p = record { rest = p.rest; joined = append_assoc first printed p.rest ∙ ap (λ (l : List ℕ). first ++ l) p.joined }

-- ---- the listing, from what reading the traverse came to

-- the listing for a traverse
abbrev opening : List ℕ → Traverse → List ℕ
opening storm t = after_opening (open_of most_points t).answer (open_of most_points t).state t (storm_of storm (count t))

-- and for what a call answers that reads a text, and leaves
abbrev listed : List ℕ → Result TraverseRead Refusal → List ℤ → List ℕ
listed storm (Ok file) points = opening storm (traverse_in file points)
listed storm (Err r) points = refusal_line r

listing-left : (s storm : List ℕ) (points : List ℤ) (x : Result TraverseRead Refusal) → traverse_left s no_points ≡ leaves x points → listing_of s storm ≡ listed storm x points
unfolding listing_of traverse_of traverse_left traverse_read
listing-left s storm points x e = go (rest_at s (held start no_points) 0 0).answer e
  where
    go : (o : Outcome TraverseRead) → leaves (traverse_read o) (rest_at s (held start no_points) 0 0).numbers ≡ leaves x points
        → after_traverse (traverse_by o (rest_at s (held start no_points) 0 0).numbers) storm ≡ listed storm x points
    go (read k at line) p = ap (λ (y : Leaves (Result TraverseRead Refusal)). listed storm y.answer y.numbers) p
    go (refused r) p = ap (λ (y : Leaves (Result TraverseRead Refusal)). listed storm y.answer y.numbers) p

-- ---- the last write

-- one line alone
put_alone : (line out : List ℕ) (waits : ℕ) (out' : List ℕ) → waits ≡ 0 + length line → out' ≡ written line 0 out → take waits out' ≡ line
put_alone line out waits out' w o = ap (λ (k : ℕ). take k out') w ∙ ap (take (0 + length line)) o ∙ take-written line 0 out (omega arith)

-- reading the traverse failed
failed-alone : (out : List ℕ) (waits : ℕ) (out' listing : List ℕ) → waits ≡ 0 + length failed_line → out' ≡ written failed_line 0 out → PrintedOf read-failed (take waits out') listing
failed-alone out waits out' listing w o = record { sound = []; line = put_alone failed_line out waits out' w o; begins = record { rest = listing; joined = refl } }

-- ---- a traverse that was read

module _ (t : Traverse) (window : List ℕ) (numbers rows : List ℤ) (out : List ℕ) (room : line_room ≤ length out) (waits : ℕ) (window' : List ℕ) (numbers' rows' : List ℤ) (out' : List ℕ)
    (rows-fresh : rows ≡ fresh_rows t) (holds : record_size (count t) ≤ length numbers) where
  abbrev names : List ℕ
  names = take (0 + length names_line) (written names_line 0 out)

  names-are : names ≡ names_line
  names-are = take-written names_line 0 out (omega arith)

  abbrev lines : List ℕ → List ℕ
  lines storm = storm_lines t (open_of most_points t).state (fresh_rows t) (storm_of storm (count t))

  -- the names line was written, and then the turns came
  module _ (m : MarchesSome t (begun_by t out room opened).run 0 window numbers rows (begun_by t out room opened).out waits window' numbers' rows' out') (e : List ℕ)
      (c : Continues m.marches.standing.window.last e) where
    abbrev last : Memory
    last = memory m.marches.standing m.marches.on window' numbers' rows' out'

    abbrev handed : List ℕ
    handed = handed_on t m.marches.earlier

    abbrev storm : List ℕ
    storm = text_read t m.marches.earlier (memory m.marches.standing m.marches.on window' numbers' rows' out') ++ e

    told : PrintedOf (how_marched t m.marches.earlier last) (handed ++ take m.marches.standing.used out') (lines storm)
    told =
        subst (λ (l : List ℤ). PrintedOf (how_marched t m.marches.earlier last) (handed ++ take m.marches.standing.used out') (storm_lines t (open_of most_points t).state l (storm_of storm (count t)))) rows-fresh
        (turns-tell t (memory (begun_at m.opened (begun_by t out room opened).run 0) true window numbers rows (begun_by t out room opened).out) (record { place = refl; line = refl; none = refl; waits = omega arith; room = holds }) m.marches.earlier last m.marches.reached e c)

    -- behind the names line
    marched : PrintedOf (how_marched t m.marches.earlier last) ((names ++ handed) ++ take waits out') (names_line ++ lines storm)
    marched =
        subst (λ (p : List ℕ). PrintedOf (how_marched t m.marches.earlier last) p (names_line ++ lines storm))
        (ap (λ (k : ℕ). names_line ++ (handed ++ take k out')) (sym m.marches.waits-are) ∙ sym (append_assoc names_line handed (take waits out')) ∙ ap (λ (l : List ℕ). (l ++ handed) ++ take waits out') (sym names-are))
        (behind (how_marched t m.marches.earlier last) names_line (handed ++ take m.marches.standing.used out') (lines storm) told)

  -- by what opening answered
  by-opening : (told : ToldOpen) (wrote : Bool) (after : AfterBegin t window numbers rows waits window' numbers' rows' out' (begun_by t out room told).turn wrote (begun_by t out room told)) (e : List ℕ)
      → let c = came_after t window numbers rows waits window' numbers' rows' out' (begun_by t out room told).turn wrote (begun_by t out room told) after in
      Continues c.last e → PrintedOf c.how (c.handed ++ take waits out') (after_opening told (open_of most_points t).state t (storm_of (c.text ++ e) (count t)))
  by-opening opened true after e c = marched after e c
  by-opening opened false after e c =
      let none : names ++ take waits out' ≡ names_line = ap (λ (k : ℕ). names ++ take k out') after.0 ∙ append-nil names ∙ names-are in
      record { rest = lines e; joined = ap (λ (l : List ℕ). l ++ lines e) none }
  by-opening (not_opened number place) wrote after e c = put_alone (refused_line number place) out waits out' after.0 after.1

  pub by-begin : (l : LeftTurn) → l ≡ begun_by t out room (open_of most_points t).answer → (wrote : Bool) (after : AfterBegin t window numbers rows waits window' numbers' rows' out' l.turn wrote l) (e : List ℕ)
      → let c = came_after t window numbers rows waits window' numbers' rows' out' l.turn wrote l after in
      Continues c.last e → PrintedOf c.how (c.handed ++ take waits out') (opening (c.text ++ e) t)
  by-begin l q =
      subst (λ (l : LeftTurn). (wrote : Bool) (after : AfterBegin t window numbers rows waits window' numbers' rows' out' l.turn wrote l) (e : List ℕ)
      → let c = came_after t window numbers rows waits window' numbers' rows' out' l.turn wrote l after in
      Continues c.last e → PrintedOf c.how (c.handed ++ take waits out') (opening (c.text ++ e) t))
      (sym q) (by-opening (open_of most_points t).answer)

-- ---- the run

pub run-prints : RunPrints
run-prints window points numbers rows out r window' points' numbers' rows' out' lent x e₁ e₂ c₁ c₂ =
    by x.file x.after (file-tells x.loads.opened window points x.file x.window₁ points' x.loads.loads e₁ c₁) (loads-has _ _ _ _ _ _ x.loads.loads) c₂
  where
    s : List ℕ
    s = files.text_read x.loads.loads.earlier x.loads.loads.at ++ e₁

    by : (k : Result TraverseRead Stop) (after : AfterFile points' x.window₁ numbers rows out x.waits window' numbers' rows' out' k x.rows₁) → Tells k s points points' → HasPoints k (length points')
        → let c = came_from points' x.window₁ numbers rows out x.waits window' numbers' rows' out' k x.rows₁ after in
        Continues c.last e₂ → PrintedOf c.how (c.handed ++ take x.waits out') (listing_of s (c.text ++ e₂))
    by (Err stop.Failed) after told has c = failed-alone out x.waits out' _ after.0.waits-are after.0.out-is
    by (Err (stop.Refused refusal)) after told has c =
        put_alone (refusal_line refusal) out x.waits out' after.0.waits-are after.0.out-is
        ∙ sym (listing-left s e₂ points' (Err refusal) (ap (traverse_left s) (sym lent.points-fresh) ∙ told))
    by (Ok file) after told has c =
        let t = traverse_in file points' in
        let n = count-is file points' has.1 in
        let came = came_from points' x.window₁ numbers rows out x.waits window' numbers' rows' out' (Ok file) x.rows₁ after in
        subst (PrintedOf came.how (came.handed ++ take x.waits out')) (sym (listing-left s (came.text ++ e₂) points' (Ok file) (ap (traverse_left s) (sym lent.points-fresh) ∙ told)))
        (by-begin t x.window₁ numbers (take (rows_in file) rows) out lent.out-holds x.waits window' numbers' x.rows₁ out'
        (ap (take (rows_in file)) lent.rows-fresh ∙ rows_are file points' has.0 has.1 has.2) (omega (arith, lent.record-holds, n, has.2))
        (begin_on t out) (begin-is t out lent.out-holds) after.0.wrote after.0.after e₂ c)
