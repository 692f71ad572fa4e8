-- The root of the definitions of `segment`: the ranges of a segment, the exact segment beside them, and what equation 33 says of depth and height.
pub mod Segment
pub mod ExactSegment
pub mod UniformDeficit
