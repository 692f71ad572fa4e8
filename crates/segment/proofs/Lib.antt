-- The laws that the proofs of `segment` and of the march cite, reference cases, and the law of equation 33.
pub mod SegmentForce
pub mod SegmentFits
pub mod SegmentLaws
pub mod SegmentRanges
pub mod SegmentInclusion
pub mod SegmentCases
pub mod UniformDeficitLaws
