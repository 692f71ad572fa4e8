-- `past_names` meets its contract. Assumes nothing.
use Rattle.std.proofs.Common.{Result, Ok, Err, IfOk, ℕ, ◌≤◌, length, sym, ◌∙◌, subst}
use Rattle.files.proofs.Asks.{AsksStart, start-asks}
use Rattle.reader.proofs.Ends.{Begun, start-begun}
use Rattle.reader.specs.declared.Cursor.{Cursor}
use Rattle.reader.specs.declared.storm.Halt.{Halt}
use Rattle.reader.specs.declared.storm.Halt.TheVariants.{More, Refused}
use Rattle.read_files.proofs.past_names.Goals as goal

begun-inside : (size : ℕ) (r : Result Cursor Halt) → Begun size r → IfOk r (λ c. c.at ≤ size)
begun-inside size (Ok c) h = h
begun-inside size (Err More) h = tt
begun-inside size (Err (Refused q)) h = tt

pub returns-then-cursor-eq0-clause-inside : goal.returns-then-cursor-eq0-clause-inside
returns-then-cursor-eq0-clause-inside c =
    begun-inside _ _ (subst (Begun (length c.args.text.bytes.now)) (sym c.storm_start_step.ensures) (start-begun c.args.text.bytes.now c.args.text.last))

pub returns-then-cursor-eq0-clause-short : goal.returns-then-cursor-eq0-clause-short
returns-then-cursor-eq0-clause-short c e =
    subst (AsksStart (length c.args.text.bytes.now)) (sym c.storm_start_step.ensures ∙ e) (start-asks c.args.text.bytes.now c.args.text.last)
