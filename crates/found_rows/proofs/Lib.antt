-- What a scan found is listed.
pub mod ScannedRows
