-- The laws of `records`.
pub mod LimitLaws
pub mod GroupLaws
pub mod RefusalLaws
pub mod FirstBad
pub mod CheckOrderLaws
