-- `segment_between` meets its contract. Assumes nothing.
use Rattle.march.proofs.MarchFits.{between-in-by}
use Rattle.march.proofs.march.segment_between.Goals as goal

pub march_segment-requires : goal.march_segment-requires
march_segment-requires c =
    between-in-by c.args.k c.args.sea c.args.shore c.args.row c.args.setup _ _ _ c.site_between-site.ensures c.weather_between-weather.ensures c.chosen_row.ensures c.requires
