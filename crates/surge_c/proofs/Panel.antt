-- The exported calls with two limits on points are the same on a traverse that both may have, since the march's are. Assumes nothing.
use Rattle.march.specs.Given.{given}
use Rattle.march.proofs.Panel.{opens-in, takes-in}
use Rattle.lent.specs.Numbers.{state_of}
use Rattle.lent.specs.Calls.{traverse_given, storm_given, open_call}
use Rattle.surge_c.specs.Rows.{numbers_from}
use Rattle.surge_c.specs.Calls.{take_call}
use Rattle.surge_c.specs.Panel.{CallsAgree}

pub same-calls : CallsAgree
unfolding open_call take_call
same-calls a b = record {
  opening = λ latitude friction initial points state answer h k. rw ((opens-in a (traverse_given latitude friction initial points)).same h b k);
  taking = λ latitude friction initial points seconds tide storm state rows setup answer h k.
      rw ((takes-in (given a (traverse_given latitude friction initial points) (storm_given seconds tide storm) (state_of state) (numbers_from rows) setup)).same h b k);
}
