pub mod OffsetZoom
